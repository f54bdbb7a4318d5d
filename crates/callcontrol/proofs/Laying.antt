-- Messages laid one after the other are their bytes stored one after the other, and how many bytes they are.
use Rattle.std.specs.Prelude.{◌/◌, ◌%◌, ◌&&◌}
use Rattle.std.specs.Bool.{beq}
use Rattle.std.specs.List.{list_any}
use Rattle.std.proofs.lemmas.List.{append_assoc}
use Prim.Native.Nat.{ℕ, zero, suc, ◌+◌, ◌*◌, ◌≤◌}
use mathlib.Core.Path.{◌≡◌, refl, sym, ◌∙◌, ap, subst}
use mathlib.Core.Bool.{Bool, true, false, cond, not}
use mathlib.Core.List.{List, [], ◌∷◌, ◌++◌}
use native.Mathlib.Omega.{arith}
use borrow.Author.Tests.{le-leb, ne_eqb, eqb-true, not-false}
use native.Mathlib.Nat.{mul-add}
use lib.Dec.{eqb, lit≤}
use lib.ListN.{length, length-append, get_or}
use lib.Seq.{sets, length-sets}
use Rattle.records.specs.declared.messages.Message.{Message}
use Rattle.records.specs.Bodies.{laid, laid_next, flat_size}
use Rattle.records.specs.Tables.{flat}
use Rattle.records.specs.Messages.{messages, message_bytes, message_size, message_laid}
use Rattle.records.proofs.Laws.{sets-append, length-flat_bytes}
use Rattle.callcontrol.specs.declared.row.Row.{Row}
use Rattle.callcontrol.specs.Settle.{pdu_by, user_by, U_SETUP, SETUP_INDICATION}
use Rattle.callcontrol.specs.Draft.{Slot, Draft}
use Rattle.callcontrol.specs.declared.call.Call.{Call}
use Rattle.callcontrol.specs.Call.{all_stopped, T301, T302, T303, T306, T308, T310, T311}
use Rattle.callcontrol.specs.Writing.{when, held, by_number, starting, messages_in, bytes_of, lay_all, Laid, count_of}

-- what is laid in two parts
lay_append : (ms ns : List Message) (at : ℕ) (b : List ℕ) → lay_all (ms ++ ns) at b ≡ lay_all ns (lay_all ms at b).0 (lay_all ms at b).1
unfolding lay_all
lay_append [] ns at b = refl
lay_append (m ∷ ms) ns at b = lay_append ms ns (laid_next (message_bytes m) b at) (laid (message_bytes m) b at)

pub lay_then : {a b c : List ℕ} {at r e : ℕ} {ms ns : List Message} → Laid a at ms r b → Laid b r ns e c → Laid a at (ms ++ ns) e c
lay_then {a} {b} {c} {at} {r} {e} {ms} {ns} p q =
    record
    { is = q.is ∙ ap (λ (w : ℕ × List ℕ). lay_all ns w.0 w.1) p.is ∙ sym (lay_append ms ns at a) }

size_bytes : (m : Message) → length (message_bytes m) ≡ message_size m
unfolding message_bytes message_size
size_bytes m = length-flat_bytes (flat messages m)

-- where all of them fit, they are stored whole
pub lay_fits : (ms : List Message) (at : ℕ) (b : List ℕ) → at + length (bytes_of ms) ≤ length b
    → lay_all ms at b ≡ (at + length (bytes_of ms), sets b at (bytes_of ms))
unfolding lay_all bytes_of laid laid_next
lay_fits [] at b h = λ i. ((sym (let z : at + 0 ≡ at = omega arith in z)) i, b)
lay_fits (m ∷ ms) at b h =
    let n = length-append (message_bytes m) (bytes_of ms) in
    let here : at + length (message_bytes m) ≤ length b = omega (arith, n) in
    let later : at + length (message_bytes m) + length (bytes_of ms) ≤ length (sets b at (message_bytes m)) =
    omega (arith, n, length-sets b at (message_bytes m)) in
    let sum : at + length (message_bytes m) + length (bytes_of ms) ≡ at + length (message_bytes m ++ bytes_of ms) = omega (arith, n) in
    rw (le-leb _ _ here)
    (lay_fits ms (at + length (message_bytes m)) (sets b at (message_bytes m)) later
    ∙ (λ i. (sum i, sym (sets-append (message_bytes m) b (bytes_of ms) at) i)))

-- how many bytes some messages take

pub size-append : (ms ns : List Message) → length (bytes_of (ms ++ ns)) ≡ length (bytes_of ms) + length (bytes_of ns)
unfolding bytes_of
size-append [] ns = omega arith
size-append (m ∷ ms) ns =
    omega (arith, length-append (message_bytes m) (bytes_of (ms ++ ns)), length-append (message_bytes m) (bytes_of ms), size-append ms ns)

pub size_one : (m : Message) → length (bytes_of (m ∷ [])) ≡ message_size m
unfolding bytes_of
size_one m = omega (arith, length-append (message_bytes m) [], size_bytes m)

pub size_when : (b : Bool) (m : Message) (n : ℕ) → message_size m ≡ n → length (bytes_of (when b m)) ≡ n * cond b 1 0
unfolding bytes_of
size_when true m n e = omega (arith, size_one m)
size_when false m n e = omega arith

whole : (b : Bool) (m : Message) (n : ℕ) → message_size m ≡ n → length (bytes_of (when b m)) ≡ cond b n 0
unfolding bytes_of
whole true m n e = size_one m ∙ e
whole false m n e = refl

-- a timer order for each flag takes the same number of bytes
pub size_by_number : (order : ℕ → Message) (flags : List Bool) (n : ℕ) → ((k : ℕ) → message_size (order k) ≡ n)
    → length (bytes_of (by_number order flags)) ≡ n * count_of flags
unfolding by_number count_of
size_by_number order flags n e =
    let w : (k p : ℕ) → length (bytes_of (when (get_or flags p false) (order k))) ≡ n * cond (get_or flags p false) 1 0 =
    λ k p. size_when (get_or flags p false) (order k) n (e k) in
    simp (size-append, mul-add)
    (omega (arith, w 301 T301, w 302 T302, w 303 T303, w 306 T306, w 308 T308, w 310 T310, w 311 T311))

-- no message takes more than 11 bytes
pub size_bound : (m : Message) → message_size m ≤ 11
unfolding message_size flat_size
size_bound (Message.USetup a d q zero) = lit≤ tt
size_bound (Message.USetup a d q (suc s)) = lit≤ tt
size_bound (Message.UConnect i) = lit≤ tt
size_bound (Message.UDisconnect i c) = lit≤ tt
size_bound (Message.URelease i) = lit≤ tt
size_bound (Message.UInfo i d) = lit≤ tt
size_bound (Message.UTxDemand i) = lit≤ tt
size_bound (Message.UTxCeased i) = lit≤ tt
size_bound (Message.UCallRestore i a q) = lit≤ tt
size_bound (Message.Stop n) = lit≤ tt
size_bound (Message.Start n o) = lit≤ tt
size_bound (Message.Configure p) = lit≤ tt
size_bound Message.Cancel = lit≤ tt
size_bound (Message.Place at) = lit≤ tt
size_bound (Message.ChannelAnswer n v) = lit≤ tt
size_bound (Message.SetupIndication i a d) = lit≤ tt
size_bound (Message.SetupConfirm i g) = lit≤ tt
size_bound Message.Proceed = lit≤ tt
size_bound Message.Alert = lit≤ tt
size_bound (Message.Complete g) = lit≤ tt
size_bound (Message.ReleaseIndication c) = lit≤ tt
size_bound Message.ReleaseConfirm = lit≤ tt
size_bound (Message.TxIndication x) = lit≤ tt
size_bound (Message.ModifyIndication d s) = lit≤ tt

-- the whole of an order: what its parts take
pub size_messages : (d : Draft)
    → length (bytes_of (messages_in d))
    ≡ 6 * count_of d.stops + cond d.cancel 4 0 + length (bytes_of (held d.pdu)) + 7 * count_of d.starts
    + cond (not (eqb d.configure 0)) 5 0 + length (bytes_of (held d.user))
unfolding messages_in message_size flat_size starting
size_messages d =
    let cancel : length (bytes_of (when d.cancel Message.Cancel)) ≡ cond d.cancel 4 0 = whole d.cancel Message.Cancel 4 refl in
    let plane : length (bytes_of (when (not (eqb d.configure 0)) (Message.Configure d.configure))) ≡ cond (not (eqb d.configure 0)) 5 0 =
    whole (not (eqb d.configure 0)) (Message.Configure d.configure) 5 refl in
    simp size-append
    (omega
    (arith, cancel, plane, size_by_number Message.Stop d.stops 6 (λ k. refl), size_by_number (starting d.call.code) d.starts 7 (λ k. refl)))

-- at most seven STOPs and seven STARTs, CANCEL, a PDU, CONFIGURE and a primitive

at_most : (b : Bool) (n : ℕ) → cond b n 0 ≤ n
at_most true n = omega arith
at_most false n = omega arith

seven : (flags : List Bool) → count_of flags ≤ 7
unfolding count_of
seven flags =
    let one : (k : ℕ) → cond (get_or flags k false) 1 0 ≤ 1 = λ k. at_most (get_or flags k false) 1 in
    omega (arith, one 0, one 1, one 2, one 3, one 4, one 5, one 6)

held_small : (slot : Slot) → length (bytes_of (held slot)) ≤ 11
unfolding bytes_of
held_small Slot.Empty = lit≤ tt
held_small (Slot.Holds m) = omega (arith, size_one m, size_bound m)

pub messages_small : (d : Draft) → length (bytes_of (messages_in d)) ≤ 122
messages_small d =
    omega
    (arith, size_messages d, seven d.stops, seven d.starts, held_small d.pdu, held_small d.user, at_most d.cancel 4, at_most (not (eqb d.configure 0)) 5)

-- where no timer is flagged, there is no order
quiet : (m n o p q r s : Message) (a b c d e f g : Bool)
    → cond a 1 0 + cond b 1 0 + cond c 1 0 + cond d 1 0 + cond e 1 0 + cond f 1 0 + cond g 1 0 ≡ 0
    → when a m ++ (when b n ++ (when c o ++ (when d p ++ (when e q ++ (when f r ++ when g s))))) ≡ []
quiet m n o p q r s true b c d e f g h = absurd (omega arith)
quiet m n o p q r s false true c d e f g h = absurd (omega arith)
quiet m n o p q r s false false true d e f g h = absurd (omega arith)
quiet m n o p q r s false false false true e f g h = absurd (omega arith)
quiet m n o p q r s false false false false true f g h = absurd (omega arith)
quiet m n o p q r s false false false false false true g h = absurd (omega arith)
quiet m n o p q r s false false false false false false true h = absurd (omega arith)
quiet m n o p q r s false false false false false false false h = refl

pub no_orders : (order : ℕ → Message) (flags : List Bool) → count_of flags ≡ 0 → by_number order flags ≡ []
unfolding count_of by_number
no_orders order flags h =
    quiet (order 301) (order 302) (order 303) (order 306) (order 308) (order 310) (order 311) (get_or flags T301 false) (get_or flags T302 false)
    (get_or flags T303 false) (get_or flags T306 false) (get_or flags T308 false) (get_or flags T310 false) (get_or flags T311 false) h

-- the test whether any timer is flagged
pub no_flags : (flags : List Bool) → not (eqb (count_of flags) 0) ≡ false → count_of flags ≡ 0
no_flags flags h = eqb-true (count_of flags) 0 (not-false (eqb (count_of flags) 0) h)

some : (n : ℕ) → (n ≡ 0 → ⊥) → true ≡ not (eqb n 0)
some n h = rw (ne_eqb n 0 h) refl

abbrev flagged : Bool → Bool → Bool → Bool → Bool → Bool → Bool → ℕ
flagged a b c d e f g = cond a 1 0 + cond b 1 0 + cond c 1 0 + cond d 1 0 + cond e 1 0 + cond f 1 0 + cond g 1 0

pub lay_none : {b : List ℕ} {at : ℕ} {ms : List Message} → ms ≡ [] → Laid b at ms at b
unfolding lay_all
lay_none {b} {at} e = record { is = rw e }

-- one message
pub lay_one : {a b : List ℕ} {at r : ℕ} {m : Message} → ◌≡◌ {A = ℕ × List ℕ} (r, b) (message_laid m a at) → Laid a at (m ∷ []) r b
unfolding lay_all
lay_one e = record { is = e }

-- U-SETUP has a byte more where it carries the slots
size_u_setup : (a d q v : ℕ) → message_size (Message.USetup a d q v) ≡ 10 + cond (not (eqb v 0)) 1 0
unfolding message_size flat_size
size_u_setup a d q zero = refl
size_u_setup a d q (suc v) = rw (ne_eqb (suc v) 0 (λ z. absurd (omega arith))) refl

-- how many bytes a row's U-PDU and its user primitive take

either_slot : (b : Bool) (s t : Slot) → length (bytes_of (held (cond b s t))) ≡ cond b (length (bytes_of (held s))) (length (bytes_of (held t)))
either_slot true s t = refl
either_slot false s t = refl

size_none : length (bytes_of []) ≡ 0
unfolding bytes_of
size_none = refl

pub size_pdu : (r : Row) → length (bytes_of (held (pdu_by r))) ≡
    cond (eqb (r.orders / U_SETUP % 16) 1) (10 + cond (not (eqb r.value 0)) 1 0)
    (cond (eqb (r.orders / U_SETUP % 16) 2) 6
    (cond (eqb (r.orders / U_SETUP % 16) 3) 7
    (cond (eqb (r.orders / U_SETUP % 16) 4) 6
    (cond (eqb (r.orders / U_SETUP % 16) 5) 6 (cond (eqb (r.orders / U_SETUP % 16) 6) 6 (cond (eqb (r.orders / U_SETUP % 16) 7) 11 0))))))
unfolding pdu_by message_size flat_size
size_pdu r = simp (either_slot, size_one, size_none) (rw (size_u_setup r.address r.mode r.asked r.value) refl)

pub size_user : (r : Row) → length (bytes_of (held (user_by r))) ≡
    cond (eqb (r.orders / SETUP_INDICATION % 16) 1) 11
    (cond (eqb (r.orders / SETUP_INDICATION % 16) 2) 7
    (cond (eqb (r.orders / SETUP_INDICATION % 16) 3) 4
    (cond (eqb (r.orders / SETUP_INDICATION % 16) 4) 4
    (cond (eqb (r.orders / SETUP_INDICATION % 16) 5) 5
    (cond (eqb (r.orders / SETUP_INDICATION % 16) 6) 5
    (cond (eqb (r.orders / SETUP_INDICATION % 16) 7) 4
    (cond (eqb (r.orders / SETUP_INDICATION % 16) 8) 5 (cond (eqb (r.orders / SETUP_INDICATION % 16) 9) 6 0))))))))
unfolding user_by message_size flat_size
size_user r = simp (either_slot, size_one, size_none) refl

-- the flags of the first timers, counted
abbrev pub count_to : ℕ → List Bool → ℕ
count_to zero flags = 0
count_to (suc k) flags = count_to k flags + cond (get_or flags k false) 1 0

pub count_bound : (k : ℕ) (flags : List Bool) → count_to k flags ≤ k
count_bound zero flags = omega arith
count_bound (suc k) flags = omega (arith, count_bound k flags, at_most (get_or flags k false) 1)

-- the timers by their numbers, and the orders of the first ones
abbrev pub numbers : List ℕ
numbers = 301 ∷ 302 ∷ 303 ∷ 306 ∷ 308 ∷ 310 ∷ 311 ∷ []

abbrev pub by_number_to : (ℕ → Message) → ℕ → List Bool → List Message
by_number_to order zero flags = []
by_number_to order (suc k) flags = by_number_to order k flags ++ when (get_or flags k false) (order (get_or numbers k 0))

all_by_number : (order : ℕ → Message) (flags : List Bool) → by_number_to order 7 flags ≡ by_number order flags
unfolding by_number
all_by_number order flags = simp append_assoc refl

-- one order more, and all of them
pub laid_further : {a b c : List ℕ} {at r e : ℕ} (order : ℕ → Message) (k : ℕ) (flags : List Bool) → Laid a at (by_number_to order k flags) r b
    → Laid b r (when (get_or flags k false) (order (get_or numbers k 0))) e c → Laid a at (by_number_to order (k + 1) flags) e c
laid_further {a} {b} {c} {at} {r} {e} order k flags p q =
    let next : suc k ≡ k + 1 = omega arith in
    subst (λ n. Laid a at (by_number_to order n flags) e c) next (lay_then p q)

pub laid_all : {a b : List ℕ} {at r : ℕ} (order : ℕ → Message) (k : ℕ) (flags : List Bool) → k ≡ 7 → Laid a at (by_number_to order k flags) r b
    → Laid a at (by_number order flags) r b
laid_all {a} {b} {at} {r} order k flags e h =
    subst (λ ms. Laid a at ms r b) (ap (λ n. by_number_to order n flags) e ∙ all_by_number order flags) h

-- an array of seven flags
seven_of : (ts : List Bool) → length ts ≡ 7
    → ts ≡ get_or ts 0 false ∷ get_or ts 1 false ∷ get_or ts 2 false ∷ get_or ts 3 false ∷ get_or ts 4 false ∷ get_or ts 5 false ∷ get_or ts 6 false ∷ []
seven_of [] h = absurd (omega arith)
seven_of (a ∷ []) h = absurd (omega arith)
seven_of (a ∷ b ∷ []) h = absurd (omega arith)
seven_of (a ∷ b ∷ c ∷ []) h = absurd (omega arith)
seven_of (a ∷ b ∷ c ∷ d ∷ []) h = absurd (omega arith)
seven_of (a ∷ b ∷ c ∷ d ∷ e ∷ []) h = absurd (omega arith)
seven_of (a ∷ b ∷ c ∷ d ∷ e ∷ f ∷ []) h = absurd (omega arith)
seven_of (a ∷ b ∷ c ∷ d ∷ e ∷ f ∷ g ∷ []) h = refl
seven_of (a ∷ b ∷ c ∷ d ∷ e ∷ f ∷ g ∷ k ∷ ts) h = absurd (omega arith)

any_seven : (a b c d e f g : Bool) → list_any (λ y. beq y true) (a ∷ b ∷ c ∷ d ∷ e ∷ f ∷ g ∷ []) ≡ not (eqb (flagged a b c d e f g) 0)
any_seven true b c d e f g = some (flagged true b c d e f g) (λ z. omega arith)
any_seven false true c d e f g = some (flagged false true c d e f g) (λ z. omega arith)
any_seven false false true d e f g = some (flagged false false true d e f g) (λ z. omega arith)
any_seven false false false true e f g = some (flagged false false false true e f g) (λ z. omega arith)
any_seven false false false false true f g = some (flagged false false false false true f g) (λ z. omega arith)
any_seven false false false false false true g = some (flagged false false false false false true g) (λ z. omega arith)
any_seven false false false false false false true = some (flagged false false false false false false true) (λ z. omega arith)
any_seven false false false false false false false = refl

pub any_flags : (flags : List Bool) → length flags ≡ 7 → list_any (λ y. beq y true) flags ≡ not (eqb (count_of flags) 0)
unfolding count_of
any_flags ts h =
    ap (list_any (λ y. beq y true)) (seven_of ts h)
    ∙ any_seven (get_or ts 0 false) (get_or ts 1 false) (get_or ts 2 false) (get_or ts 3 false) (get_or ts 4 false) (get_or ts 5 false) (get_or ts 6 false)

none_seven : (a b c d e f g : Bool) → not (list_any (λ y. beq y true) (a ∷ b ∷ c ∷ d ∷ e ∷ f ∷ g ∷ [])) ≡ (not a && not b && not c && not d && not e && not f && not g)
none_seven true b c d e f g = refl
none_seven false true c d e f g = refl
none_seven false false true d e f g = refl
none_seven false false false true e f g = refl
none_seven false false false false true f g = refl
none_seven false false false false false true g = refl
none_seven false false false false false false true = refl
none_seven false false false false false false false = refl

-- the same of a call's timers
pub none_runs : (call : Call) → length call.timers ≡ 7 → not (list_any (λ y. beq y true) call.timers) ≡ all_stopped call
unfolding all_stopped
none_runs call h =
    let ts = call.timers in
    ap (λ w. not (list_any (λ y. beq y true) w)) (seven_of ts h)
    ∙ none_seven (get_or ts 0 false) (get_or ts 1 false) (get_or ts 2 false) (get_or ts 3 false) (get_or ts 4 false) (get_or ts 5 false) (get_or ts 6 false)
