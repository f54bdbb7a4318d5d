-- Records that may carry slots at their end: with them they are the longer line of the table, without them the shorter.
use Prim.Native.Nat.{ℕ, zero, suc, ◌+◌}
use mathlib.Core.Bool.{true, cond, ◌||◌}
use mathlib.Core.Option.{none, some}
use mathlib.Core.Path.{◌≡◌, refl, sym, ◌∙◌}
use mathlib.Core.List.{List, [], ◌∷◌, ◌++◌}
use native.Mathlib.Omega.{arith}
use borrow.Author.Tests.{eq-eqb, ne_eqb, eqb-true}
use lib.Dec.{eqb}
use lib.ListN.{length}
use Rattle.records.specs.declared.events.Event.{Event}
use Rattle.records.specs.declared.messages.Message.{Message}
use Rattle.std.proofs.Common.{Result, Ok, Err}
use Rattle.records.specs.declared.bodies.Unreadable.{Unreadable}
use Rattle.records.specs.Letters.{Letter, width, a₁, d, q, i, g, o, r, o₁₆, s}
use Rattle.records.specs.Bodies.{Found, is, bad_at, Values, size, value_at, slots_at, field, size_or_place, line_bytes}
use Rattle.records.specs.Tables.{Table, Read, as_read, taken, find, known, size_of, read_body, read_among}
use Rattle.records.specs.Events.{event_bytes}
use Rattle.records.specs.Messages.{message_bytes}
use Rattle.records.proofs.Laws.{by_test}
use Rattle.records.proofs.Reading.{Good, Refused, Passes, passed, end, then, wrong, past, wrong_too}
use Rattle.records.proofs.Rows.{bad, good}
use Rattle.records.proofs.Writing.{Body, message_line, event_line}

-- ---- read where they may stand

module _ (bytes : List ℕ) (at : ℕ) where
  pub none_carried : {v : ℕ} → is v ≡ slots_at bytes at → length bytes ≡ at → v ≡ 0
  unfolding slots_at
  none_carried {v} e w = let z : ◌≡◌ {A = Found ℕ} (is v) (is 0) = rw (eq-eqb _ _ w) at e in cc

  pub none_bad : {p : ℕ} → bad_at p ≡ slots_at bytes at → length bytes ≡ at → ⊥
  unfolding slots_at
  none_bad {p} e w = let z : ◌≡◌ {A = Found ℕ} (bad_at p) (is 0) = rw (eq-eqb _ _ w) at e in let y : ◌≡◌ {A = ℕ} 0 1 = cc in omega arith

  -- where the body goes on
  pub carried_at : {x : Found ℕ} → x ≡ slots_at bytes at → length bytes ≡ at + 1 → x ≡ value_at s bytes at
  unfolding slots_at
  carried_at {x} e w = let other : length bytes ≡ at → ⊥ = λ z. omega arith in rw (ne_eqb _ _ other) at e

-- the values of letters, and slots behind them
abbrev pub joined : (ls : List Letter) → Values ls → ℕ → Values (ls ++ (s ∷ []))
joined [] vs v = (v, tt)
joined (l ∷ ls) vs v = (vs.0, joined ls vs.1 v)

-- letters that hold values, and slots that are 0 where the record ends before them
pub record GoodWith (ls : List Letter) (bytes : List ℕ) (at : ℕ) (vs : Values ls) (v : ℕ) : Type 0 where
  pub without : length bytes ≡ at + size ls → (v ≡ 0) × Good ls bytes at vs
  pub behind : length bytes ≡ at + size ls + 1 → Good (ls ++ (s ∷ [])) bytes at (joined ls vs v)

-- letters that hold values, and slots that are wrong
pub record WrongSlots (ls : List Letter) (bytes : List ℕ) (at : ℕ) (u : Unreadable) : Type 0 where
  pub absent : length bytes ≡ at + size ls → ⊥
  pub carried : length bytes ≡ at + size ls + 1 → Refused (ls ++ (s ∷ [])) bytes at u

module _ (bytes : List ℕ) (at : ℕ) {r : Result ℕ Unreadable} where
  none_there : {v : ℕ} → r ≡ Ok v → r ≡ field (slots_at bytes at) → length bytes ≡ at + 0 → v ≡ 0
  unfolding slots_at
  none_there {v} was e w = let h : length bytes ≡ at = omega arith in let z : ◌≡◌ {A = Result ℕ Unreadable} (Ok v) (Ok 0) = sym was ∙ rw (eq-eqb _ _ h) at e in cc

  some_there : length bytes ≡ at + 1 → r ≡ field (slots_at bytes at) → r ≡ field (value_at s bytes at)
  unfolding slots_at
  some_there w e = let other : length bytes ≡ at → ⊥ = λ z. omega arith in rw (ne_eqb _ _ other) at e

  not_none : {u : Unreadable} → r ≡ Err u → r ≡ field (slots_at bytes at) → length bytes ≡ at + 0 → ⊥
  unfolding slots_at
  not_none {u} was e w = let h : length bytes ≡ at = omega arith in let z : ◌≡◌ {A = Result ℕ Unreadable} (Err u) (Ok 0) = sym was ∙ rw (eq-eqb _ _ h) at e in let y : ◌≡◌ {A = ℕ} 0 1 = cc in omega arith

module _ {bytes : List ℕ} {at : ℕ} {r : Result ℕ Unreadable} where
  pub end_with : {v : ℕ} → r ≡ Ok v → r ≡ field (slots_at bytes at) → GoodWith [] bytes at tt v
  end_with was e =
      record { without = λ w. (none_there bytes at was e w, end); behind = λ w. let h : length bytes ≡ at + 1 = omega arith in then was (some_there bytes at h e) end }

  pub wrong_slots : {u : Unreadable} → r ≡ Err u → r ≡ field (slots_at bytes at) → WrongSlots [] bytes at u
  wrong_slots was e =
      record { absent = not_none bytes at was e; carried = λ w. let h : length bytes ≡ at + 1 = omega arith in wrong was (some_there bytes at h e) }

module _ {l : Letter} {ls : List Letter} {bytes : List ℕ} {at : ℕ} {r : Result ℕ Unreadable} where
  pub then_with : {v w : ℕ} {vs : Values ls} → r ≡ Ok v → r ≡ field (value_at l bytes at) → GoodWith ls bytes (at + width l) vs w → GoodWith (l ∷ ls) bytes at (v, vs) w
  then_with was e g =
      record {
        without = λ h. let k = g.without (omega arith) in (k.0, then was e k.1);
        behind = λ h. then was e (g.behind (omega arith));
      }

  pub past_with : {v : ℕ} {u : Unreadable} → r ≡ Ok v → r ≡ field (value_at l bytes at) → WrongSlots ls bytes (at + width l) u → WrongSlots (l ∷ ls) bytes at u
  past_with was e b =
      record { absent = λ h. b.absent (omega arith); carried = λ h. past was e (b.carried (omega arith)) }

-- two kinds that have the number, the second with the slots behind the letters of the first
module _ (t : Table) (ks : List t.Kind) (k l : t.Kind) {n : ℕ} (bytes : List ℕ) (key : n ≡ (t.row_of k).number) (kn : known t (t.row_of k).number ks ≡ true) (two : find t (t.row_of k).number (length bytes) ks ≡ cond (eqb (length bytes) (size_of t k)) (some k) (cond (eqb (length bytes) (size_of t l)) (some l) none)) (longer : size_of t l ≡ size_of t k + 1) {r : Result Unit Unreadable} (tested : r ≡ size_or_place (eqb (length bytes) (size_of t k) || eqb (length bytes) (size_of t k + 1))) where
  pub wrong_size_slots : {u : Unreadable} → r ≡ Err u → (q : Result t.Value Unreadable) → Passes u q → as_read q ≡ read_among t ks n bytes
  unfolding read_among
  wrong_size_slots {u} was o passes =
      by_test (eqb (length bytes) (size_of t k))
      (λ h. let z : Err u ≡ Ok tt = sym was ∙ rw h at tested in cc)
      (λ h.
      by_test (eqb (length bytes) (size_of t k + 1))
      (λ i. let z : Err u ≡ Ok tt = sym was ∙ rw (h, i) at tested in cc)
      (λ i. let z : Err u ≡ Err (Unreadable.BadBody 2) = sym was ∙ rw (h, i) at tested in let y : u ≡ Unreadable.BadBody 2 = cc in rw (passed o passes, y, key, kn, two, h, longer, i)))

  of_two : r ≡ Ok tt → {x : Read t.Value} → (length bytes ≡ size_of t k → x ≡ read_body t k bytes) → (length bytes ≡ size_of t k + 1 → x ≡ read_body t l bytes) → x ≡ read_among t ks n bytes
  unfolding read_among
  of_two was shorter behind =
      by_test (eqb (length bytes) (size_of t k))
      (λ h. rw (key, kn, two, h) (shorter (eqb-true _ _ h)))
      (λ h.
      by_test (eqb (length bytes) (size_of t k + 1))
      (λ i. rw (key, kn, two, h, longer, i) (behind (eqb-true _ _ i)))
      (λ i. let z : Ok tt ≡ Err (Unreadable.BadBody 2) = sym was ∙ rw (h, i) at tested in cc))

  module _ (also_there : (u : Unreadable) → Refused ((t.row_of k).letters ++ (s ∷ [])) bytes 4 u → Refused (t.row_of l).letters bytes 4 u) where
    pub wrong_field_slots : {u : Unreadable} → r ≡ Ok tt → Refused (t.row_of k).letters bytes 4 u → (q : Result t.Value Unreadable) → Passes u q → as_read q ≡ read_among t ks n bytes
    wrong_field_slots was body o passes =
        let more = also_there _ (wrong_too (s ∷ []) body) in
        rw (passed o passes) (of_two was (λ w. rw body.said (bad t k bytes w body.bad)) (λ w. rw more.said (bad t l bytes (w ∙ sym longer) more.bad)))

    pub wrong_slots_field : {u : Unreadable} → r ≡ Ok tt → WrongSlots (t.row_of k).letters bytes 4 u → (q : Result t.Value Unreadable) → Passes u q → as_read q ≡ read_among t ks n bytes
    wrong_slots_field was body o passes =
        rw (passed o passes) (of_two was (λ w. absurd (body.absent w)) (λ w. let more = also_there _ (body.carried w) in rw more.said (bad t l bytes (w ∙ sym longer) more.bad)))

  pub right_body_slots : {vs : Values (t.row_of k).letters} {v : ℕ} {x : t.Value} → r ≡ Ok tt → GoodWith (t.row_of k).letters bytes 4 vs v → (v ≡ 0 → x ≡ t.value_of k vs) → (Good ((t.row_of k).letters ++ (s ∷ [])) bytes 4 (joined (t.row_of k).letters vs v) → (ws : Values (t.row_of l).letters) × Good (t.row_of l).letters bytes 4 ws × (x ≡ t.value_of l ws)) → t.agrees x ≡ true → taken x ≡ read_among t ks n bytes
  right_body_slots was body without behind agrees =
      of_two was
      (λ w. let g = body.without w in let e = without g.0 in rw e (good t k bytes w g.1 (rw e at agrees)))
      (λ w. let g = behind (body.behind w) in rw g.2 (good t l bytes (w ∙ sym longer) g.1 (rw g.2 at agrees)))

-- ---- with slots: the bytes are those of the longer line

pub setup_request_line : {address mode ask slots : ℕ} {out : List ℕ} → (slots ≡ 0 → ⊥) → Body (a₁ ∷ d ∷ q ∷ s ∷ []) (address, (mode, (ask, (slots, tt)))) out → line_bytes 0x0101 out ≡ event_bytes (Event.SetupRequest address mode ask slots)
setup_request_line {slots = zero} other body = absurd (other refl)
setup_request_line {address} {mode} {ask} {slots = suc m} other body = event_line (Event.SetupRequest address mode ask (suc m)) body

pub d_connect_line : {id grant mode code slots : ℕ} {out : List ℕ} → (slots ≡ 0 → ⊥) → Body (i ∷ g ∷ d ∷ o ∷ s ∷ []) (id, (grant, (mode, (code, (slots, tt))))) out → line_bytes 0x0203 out ≡ event_bytes (Event.DConnect id grant mode code slots)
d_connect_line {slots = zero} other body = absurd (other refl)
d_connect_line {id} {grant} {mode} {code} {slots = suc m} other body = event_line (Event.DConnect id grant mode code (suc m)) body

pub d_info_line : {id reset code mode slots : ℕ} {out : List ℕ} → (slots ≡ 0 → ⊥) → Body (i ∷ r ∷ o₁₆ ∷ d ∷ s ∷ []) (id, (reset, (code, (mode, (slots, tt))))) out → line_bytes 0x0206 out ≡ event_bytes (Event.DInfo id reset code mode slots)
d_info_line {slots = zero} other body = absurd (other refl)
d_info_line {id} {reset} {code} {mode} {slots = suc m} other body = event_line (Event.DInfo id reset code mode (suc m)) body

pub u_setup_line : {address mode ask slots : ℕ} {out : List ℕ} → (slots ≡ 0 → ⊥) → Body (a₁ ∷ d ∷ q ∷ s ∷ []) (address, (mode, (ask, (slots, tt)))) out → line_bytes 0x0501 out ≡ message_bytes (Message.USetup address mode ask slots)
u_setup_line {slots = zero} other body = absurd (other refl)
u_setup_line {address} {mode} {ask} {slots = suc m} other body = message_line (Message.USetup address mode ask (suc m)) body
