-- A host's run over the 20 bytes is the run of the rooms: all rooms of a run fit their bytes, so they are unpacked as they stand, and what a turn leaves is
-- packed over them. And a step's result has its answer in front.
use Prim.Native.Nat.{ℕ, ◌+◌, ◌*◌, ◌/◌, ◌≤◌}
use mathlib.Core.Path.{◌≡◌, refl, sym, ◌∙◌, ap}
use mathlib.Core.Bool.{Bool, true, false, cond, ◌&&◌}
use mathlib.Core.List.{List, [], ◌∷◌, append-nil}
use native.Mathlib.Omega.{arith}
use borrow.Author.Tests.{eq-eqb, ne_eqb, eqb-true, eqb-false, leb-true, lt-ltb}
use lib.Dec.{eqb, leb, ltb}
use lib.ListN.{length, drop_of_length-le}
use lib.Seq.{sets, sets-eq}
use Rattle.records.specs.Bytes.{bytes}
use Rattle.callcontrol.specs.declared.call.Call.{Call}
use Rattle.callcontrol.specs.Step as step
use Rattle.channel.specs.declared.rooms.Room.{Room}
use Rattle.channel.specs.Rooms.{fresh_rooms, is_free, room_fits, every?}
use Rattle.channel.specs.Questions.{Outcome, pdu_of}
use Rattle.channel.specs.Runs.{Turn, outcome, next, run, AllHanded}
use Rattle.channel.proofs.Counting.{Sound}
use Rattle.channel.proofs.Kept.{fresh_sound, next_sound, next_small, run_sound, run_small}
use Rattle.channel.proofs.Reading.{small}
use Rattle.channel.proofs.Written.{refused}
use Rattle.host.specs.Entries.{host_step}
use Rattle.host.specs.Channel.{packed_room, packed_rooms, RoomsLeft, rooms_freshened, rooms_left_by, on_rooms}
use Rattle.host.specs.ChannelLaws as laws
use Rattle.host.specs.ChannelLaws.{room_small, FittingRooms, rooms_called, rooms_run}
use Rattle.host.proofs.ChannelPacking.{packed_rooms_are_unpacked}
use Rattle.host.proofs.Small.{step_small}
use Rattle.demands.proofs.Answers.{place_only_with_four}
use Rattle.demands.proofs.Facts as facts

packed_length : (rooms : List Room) → length (packed_rooms rooms) ≡ 20
unfolding packed_rooms packed_room bytes
packed_length rooms = refl

packed_over : (s : List ℕ) (rooms : List Room) → length s ≡ 20 → sets s 0 (packed_rooms rooms) ≡ packed_rooms rooms
packed_over s rooms h =
    sets-eq (packed_rooms rooms) s 0 (omega (arith, packed_length rooms))
    ∙ rw (packed_length rooms, drop_of_length-le s {i = 20} (omega arith), append-nil (packed_rooms rooms))

-- ---- all rooms of a run fit

call_small : (r : Room) → room_fits r ≡ true → ltb r.call 65536 ≡ true
unfolding room_fits
call_small r h = by (is_free r) h
  where
    by : (f : Bool) → cond f (eqb r.number 0 && eqb r.call 0) (leb r.call 16383) ≡ true → ltb r.call 65536 ≡ true
    by true h = let z = eqb-true r.call 0 (facts.right (eqb r.number 0) _ h) in lt-ltb r.call 65536 (omega (arith, z))
    by false h = let z = leb-true r.call 16383 h in lt-ltb r.call 65536 (omega (arith, z))

both_small : (rooms : List Room) → every? small rooms ≡ true → every? room_fits rooms ≡ true → every? room_small rooms ≡ true
both_small [] h f = refl
both_small (r ∷ rs) h f =
    facts.and _ _ (facts.and _ _ (facts.left (small r) _ h) (call_small r (facts.left (room_fits r) _ f)))
    (both_small rs (facts.right (small r) _ h) (facts.right (room_fits r) _ f))

rooms_fit : (rooms : List Room) → Sound rooms → every? small rooms ≡ true → FittingRooms rooms
rooms_fit rooms s h = record { small = both_small rooms h s.fit; four = s.four }

-- ---- one call over packed bytes, and a run

call_packed : (rooms : List Room) (t : Turn) → FittingRooms rooms → rooms_called (packed_rooms rooms) t ≡ rooms_left_by (packed_rooms rooms) (outcome rooms t)
unfolding on_rooms
call_packed rooms t f = rw (packed_rooms_are_unpacked rooms f)

bytes_packed : (rooms : List Room) (t : Turn) → FittingRooms rooms → (rooms_called (packed_rooms rooms) t).rooms ≡ packed_rooms (next rooms t)
unfolding next
bytes_packed rooms t f = ap (λ (l : RoomsLeft). l.rooms) (call_packed rooms t f) ∙ by (eqb (outcome rooms t).answer 0) refl
  where
    by : (b : Bool) → eqb (outcome rooms t).answer 0 ≡ b
        → cond b (sets (packed_rooms rooms) 0 (packed_rooms (outcome rooms t).rooms)) (packed_rooms rooms) ≡ packed_rooms (outcome rooms t).rooms
    by true e = packed_over (packed_rooms rooms) (outcome rooms t).rooms (packed_length rooms)
    by false e = ap (λ (o : Outcome). packed_rooms o.rooms) (sym (refused rooms t (outcome rooms t).answer refl (eqb-false _ _ e)))

run_packed : (rooms : List Room) (ts : List Turn) → Sound rooms → every? small rooms ≡ true → AllHanded ts → rooms_run (packed_rooms rooms) ts ≡ packed_rooms (run rooms ts)
unfolding rooms_run run
run_packed rooms [] s h g = refl
run_packed rooms (t ∷ ts) s h g =
    rw (bytes_packed rooms t (rooms_fit rooms s h)) (run_packed (next rooms t) ts (next_sound rooms s t) (next_small rooms s h t g.0) g.1)

begun : (s : List ℕ) → length s ≡ 20 → (rooms_freshened s).rooms ≡ packed_rooms fresh_rooms
unfolding rooms_freshened
begun s h = rw (eq-eqb (length s) 20 h) (packed_over s fresh_rooms h)

pub rooms_run_is_packed : laws.RoomsRunIsPacked
rooms_run_is_packed s ts h g = rw (begun s h) (run_packed fresh_rooms ts fresh_sound refl g)

pub call_is_the_turn : laws.CallIsTheTurn
call_is_the_turn s ts t h g =
    rw (rooms_run_is_packed s ts h g)
    (call_packed (run fresh_rooms ts) t (rooms_fit (run fresh_rooms ts) (run_sound fresh_rooms ts fresh_sound) (run_small fresh_rooms ts fresh_sound g refl)))

-- ---- by the step's result

in_front : (n p k : ℕ) → (n ≡ 0 → p ≡ 0) → k ≤ 122 → eqb ((n * 16777216 + p * 65536 + k) / 16777216) 0 ≡ eqb n 0
in_front n p k zero few = by (eqb n 0) refl
  where
    by : (b : Bool) → eqb n 0 ≡ b → eqb ((n * 16777216 + p * 65536 + k) / 16777216) 0 ≡ b
    by true e = let z = eqb-true n 0 e in let y = zero z in eq-eqb ((n * 16777216 + p * 65536 + k) / 16777216) 0 (omega (arith, z, y))
    by false e = let z = eqb-false n 0 e in ne_eqb ((n * 16777216 + p * 65536 + k) / 16777216) 0 (λ q. omega (arith, z, q))

place_none : (c : Call) (pdu out : List ℕ) → (step.step_of c pdu out).answer ≡ 0 → (step.step_of c pdu out).place ≡ 0
place_none c pdu out z = place_only_with_four c pdu out (λ f. let y : ◌≡◌ {A = ℕ} 0 4 = sym z ∙ f in omega (arith, y))

pub by_the_result : laws.ByTheResult
unfolding pdu_of host_step
by_the_result rooms n c b s pdu out call e =
    let o = step.step_of call pdu out in
    let same = in_front o.answer o.place o.count (place_none call pdu out) (step_small call pdu out refl) in
    rw e (rw same)
