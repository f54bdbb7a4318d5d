-- A retired kind is answered with 9, whatever its body, and nothing else is; its number stands in no line of either table.
use Prim.Native.Nat.{ℕ}
use mathlib.Core.Path.{◌≡◌, refl, sym}
use mathlib.Core.Bool.{Bool, true, false, cond, not}
use mathlib.Core.List.{List}
use mathlib.Core.Option.{Option, none, some}
use native.Mathlib.Omega.{arith}
use lib.ListN.{length}
use Rattle.records.specs.Bodies.{Found, is, bad_at, body_of, kind_in}
use Rattle.records.specs.Tables.{Table, Read, taken, refused, or_refuse, or_place, sized, known, listed, find, read_body, read_among, read_as, read}
use Rattle.records.specs.Laws.{Lawful, every, RetiredIsNine, NineIsRetired, RetiredInNeither}
use Rattle.records.specs.Events.{events}
use Rattle.records.specs.Messages.{messages}
use Rattle.records.proofs.Rows.{headed, of_none}
use Rattle.records.proofs.Apart.{of_each}
use Rattle.records.proofs.Tables.{event_lawful, message_lawful}

-- an answer that is not 9
abbrev NotNine : {A : Type 0} → Read A → Type 0
NotNine x = (p : ℕ) → x ≡ refused 9 p → ⊥

body_not : {A : Type 0} (b : Bool) (x : A) (q : ℕ) → NotNine (cond b (taken x) (refused 4 q))
body_not true x q p e = let z : ◌≡◌ {A = ℕ} 0 1 = cc in omega arith
body_not false x q p e = let z : ◌≡◌ {A = ℕ} 4 9 = cc in omega arith

place_not : {A B : Type 0} (o : Found A) (f : A → Read B) → ((a : A) → NotNine (f a)) → NotNine (or_place o f)
place_not (is a) f rest p e = rest a p e
place_not (bad_at q) f rest p e = let z : ◌≡◌ {A = ℕ} 4 9 = cc in omega arith

kind_not : {A : Type 0} (b : Bool) (x : Read A) → NotNine x → NotNine (cond b x (refused 3 0))
kind_not true x rest p e = rest p e
kind_not false x rest p e = let z : ◌≡◌ {A = ℕ} 3 9 = cc in omega arith

headed_nine : {A : Type 0} (o : Option ℕ) (f : ℕ → Read A) (p : ℕ) → or_refuse 2 o f ≡ refused 9 p → (n : ℕ) × ((o ≡ some n) × (f n ≡ refused 9 p))
headed_nine none f p e = let z : ◌≡◌ {A = ℕ} 2 9 = cc in absurd (omega arith)
headed_nine (some n) f p e = (n, (refl, e))

nine_so : {A : Type 0} (b : Bool) (x : Read A) (p : ℕ) → NotNine x → cond b (refused 9 0) x ≡ refused 9 p → b ≡ true
nine_so true x p other e = refl
nine_so false x p other e = absurd (other p e)

module _ (t : Table) where
  retired_is_nine : RetiredIsNine t
  retired_is_nine s n kind retired = sym (headed t s (sym kind) (of_none t n s retired))

  among_not : (n : ℕ) (s : List ℕ) → NotNine (read_among t t.kinds n s)
  unfolding read_among read_body
  among_not n s =
      kind_not (known t n t.kinds) _
      (place_not (sized (find t n (length s) t.kinds)) _ (λ k. place_not (body_of (t.row_of k).letters s) _ (λ vs. body_not (t.agrees (t.value_of k vs)) _ t.clash)))

  nine_is_retired : NineIsRetired t
  unfolding read read_as
  nine_is_retired s p e =
      let head : (n : ℕ) × ((kind_in s ≡ some n) × (read_as t n s ≡ refused 9 p)) = headed_nine (kind_in s) (λ n. read_as t n s) p e in
      (head.0, (head.1.0, nine_so (listed head.0 t.retired) (read_among t t.kinds head.0 s) p (among_not head.0 s) head.1.1))

  -- a table whose numbers are not among the retired ones
  free : (u : Table) → Lawful u → every (λ k. not (listed (u.row_of k).number t.retired)) u.kinds ≡ true → (n : ℕ) → listed n t.retired ≡ true → (k : u.Kind) → (u.row_of k).number ≡ n → ⊥
  free u lawful all n retired k e =
      let other : not (listed (u.row_of k).number t.retired) ≡ true = of_each u lawful (λ l. not (listed (u.row_of l).number t.retired)) all k in
      let z : ◌≡◌ {A = Bool} false true = rw (e, retired) at other in
      let y : ◌≡◌ {A = ℕ} 0 1 = cc in omega arith

pub event_retired_is_nine : RetiredIsNine events
event_retired_is_nine = retired_is_nine events

pub event_nine_is_retired : NineIsRetired events
event_nine_is_retired = nine_is_retired events

pub message_nine_is_retired : NineIsRetired messages
message_nine_is_retired = nine_is_retired messages

pub retired_in_neither : RetiredInNeither events messages
retired_in_neither n retired = (free events events event_lawful refl n retired, free events messages message_lawful refl n retired)
