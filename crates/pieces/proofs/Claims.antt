-- The claims of specs/Claims.antt, each proved.
use Prim.Native.Nat.{ℕ}
use mathlib.Core.Path.{◌≡◌, refl, sym, ◌∙◌, ap}
use mathlib.Core.Bool.{Bool, true, false}
use mathlib.Core.List.{List, [], ◌∷◌, ◌++◌, append-nil}
use native.Mathlib.Omega.{arith}
use borrow.Author.Tests.{ltb-true, ltb-false}
use lib.Dec.{ltb}
use lib.ListN.{length}
use Rattle.pieces.specs.declared.reader.Reader.{Reader}
use Rattle.pieces.specs.Stream.{Held, holds}
use Rattle.pieces.specs.Next.{fresh_reader, stopped_reader}
use Rattle.pieces.specs.Runs.{run, joined}
use Rattle.pieces.specs.Claims.{HoldsByFront, EveryCutting, AsInOnePiece, NothingLost, StoppedThere, WholeRecords, BytesUsed, LoopEnds, StoppedCarriesNothing, StoppedRefuses, StaysStopped, SmallCarry, Answered, Refused, SmallNumbers}
use Rattle.pieces.proofs.Cases as cases
use Rattle.pieces.proofs.Feeding.{Standing, goes, halted, from_fresh, stopped_next, small_next, refused_run}
use Rattle.pieces.proofs.Holding.{by_front_lem, follows}

pub holds_by_front : HoldsByFront
holds_by_front s = by_front_lem s

pub every_cutting : EveryCutting
every_cutting carry pieces room = (from_fresh carry pieces room).shows

pub as_in_one_piece : AsInOnePiece
unfolding joined
as_in_one_piece carry pieces room =
    every_cutting carry pieces room ∙ ap holds (sym (append-nil (joined pieces))) ∙ sym (every_cutting carry (joined pieces ∷ []) room)

pub nothing_lost : NothingLost
nothing_lost carry pieces room so =
    let e = every_cutting carry pieces room in
    let f = follows (joined pieces) in
    ap (λ (h : Held). joined h.records ++ h.left) e
    ∙ ap (λ (l : List ℕ). joined (holds (joined pieces)).records ++ l) (sym (f.kept (sym (ap (λ (h : Held). h.stopped) e) ∙ so)))
    ∙ f.all

pub stopped_there : StoppedThere
stopped_there carry pieces room so =
    let e = every_cutting carry pieces room in
    let f = follows (joined pieces) in
    (f.rest, rw (ap (λ (h : Held). h.records) e) f.all, f.bad (sym (ap (λ (h : Held). h.stopped) e) ∙ so))

pub whole_records : WholeRecords
whole_records = cases.whole_records

pub bytes_used : BytesUsed
bytes_used = cases.uses

pub loop_ends : LoopEnds
loop_ends = cases.loop_ends

pub small_carry : SmallCarry
small_carry r carry pieces h = refused_run 22 r carry (λ piece. small_next r carry piece h) pieces

pub stopped_refuses : StoppedRefuses
stopped_refuses r carry piece room so = stopped_next r carry piece room so

pub stays_stopped : StaysStopped
stays_stopped r carry pieces room so = refused_run 21 r carry (λ piece. stopped_next r carry piece room so) pieces

standing_stopped : {r : Reader} {carry : List ℕ} → Standing r carry → r.stopped ≡ true → r ≡ stopped_reader
standing_stopped (goes ready) so = cc
standing_stopped (halted room) so = refl

stopped_by : (small : Bool) (carry : List ℕ) (pieces : List (List ℕ)) → ltb (length carry) 64 ≡ small
    → (run fresh_reader carry pieces).reader.stopped ≡ true → (run fresh_reader carry pieces).reader ≡ stopped_reader
stopped_by true carry pieces e so = absurd (let z : false ≡ true = rw (small_carry fresh_reader carry pieces (ltb-true _ _ e)) at so in let y : ◌≡◌ {A = ℕ} 0 1 = cc in omega arith)
stopped_by false carry pieces e so = standing_stopped (from_fresh carry pieces (ltb-false _ _ e)).stands so

pub stopped_carries_nothing : StoppedCarriesNothing
stopped_carries_nothing carry pieces so = stopped_by (ltb (length carry) 64) carry pieces refl so

pub answered : Answered
answered = cases.answered

pub refuses : Refused
refuses = cases.refuses

pub small_numbers : SmallNumbers
small_numbers = cases.small_numbers
