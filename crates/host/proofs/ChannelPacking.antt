-- What is packed is unpacked as the same rooms, and what is unpacked is packed as the same bytes.
use Prim.Native.Nat.{ℕ, ◌+◌, ◌*◌, ◌/◌, ◌%◌, ◌≤◌, ◌<◌}
use mathlib.Core.Path.{◌≡◌, refl}
use mathlib.Core.Bool.{Bool, true, false, cond}
use mathlib.Core.List.{[], ◌∷◌}
use mathlib.Core.Option.{some}
use native.Mathlib.Omega.{arith}
use borrow.Author.Tests.{leb-true, eqb-true, ltb-true, eqb-false}
use lib.Dec.{leb, eqb, ltb}
use lib.ListN.{length, get_or}
use Rattle.records.specs.Bytes.{number, bytes}
use Rattle.channel.specs.declared.rooms.Wait.{Wait}
use Rattle.channel.specs.declared.rooms.Room.{Room}
use Rattle.channel.specs.Rooms.{wait_number}
use Rattle.host.specs.Channel.{packed_room, packed_rooms, is_rooms, wait_is, held_room, held_rooms, unpacked_rooms}
use Rattle.host.specs.ChannelLaws.{room_small, PackedRoomsAreUnpacked, HeldRoomsArePacked}
use Rattle.host.proofs.Packing.{items_drop, bytes_number}
use Rattle.demands.proofs.Facts.{left, right}

-- what a room waits for, there and back

wait_small : (w : Wait) → leb (wait_number w) 2 ≡ true
wait_small Wait.Nobody = refl
wait_small Wait.User = refl
wait_small Wait.Cancel = refl

wait_there : (w : Wait) → wait_is (wait_number w) ≡ w
wait_there Wait.Nobody = refl
wait_there Wait.User = refl
wait_there Wait.Cancel = refl

wait_back : (n : ℕ) → n ≤ 2 → wait_number (wait_is n) ≡ n
wait_back n h = by (eqb n 1) (eqb n 2) refl refl
  where
    by : (a b : Bool) → eqb n 1 ≡ a → eqb n 2 ≡ b → wait_number (cond a Wait.User (cond b Wait.Cancel Wait.Nobody)) ≡ n
    by true b p q = let z = eqb-true n 1 p in omega (arith, z)
    by false true p q = let z = eqb-true n 2 q in omega (arith, z)
    by false false p q = let z = eqb-false n 1 p in let y = eqb-false n 2 q in omega (arith, z, y)

-- a number and its two bytes
two : (v : ℕ) → v < 65536 → v % 256 + 256 * (v / 256 % 256 + 256 * 0) ≡ v
two v h = omega arith

are_rooms : (a b c d : Room) → is_rooms (packed_rooms (a ∷ b ∷ c ∷ d ∷ [])) ≡ true
unfolding is_rooms packed_rooms packed_room bytes
are_rooms a b c d = simp wait_small

small_number : (r : Room) → room_small r ≡ true → r.number < 65536
small_number r h = ltb-true _ _ (left (ltb r.number 65536) _ h)

small_call : (r : Room) → room_small r ≡ true → r.call < 65536
small_call r h = ltb-true _ _ (right (ltb r.number 65536) _ h)

four_unpacked : (a b c d : Room) → room_small a ≡ true → room_small b ≡ true → room_small c ≡ true → room_small d ≡ true
    → unpacked_rooms (packed_rooms (a ∷ b ∷ c ∷ d ∷ [])) ≡ some (a ∷ b ∷ c ∷ d ∷ [])
unfolding unpacked_rooms held_rooms held_room packed_rooms packed_room bytes number
four_unpacked a b c d p q r s =
    rw (are_rooms a b c d)
    (simp wait_there
    (rw (two a.number (small_number a p), two a.call (small_call a p), two b.number (small_number b q), two b.call (small_call b q), two c.number (small_number c r), two c.call (small_call c r), two d.number (small_number d s), two d.call (small_call d s))))

pub packed_rooms_are_unpacked : PackedRoomsAreUnpacked
packed_rooms_are_unpacked [] f = let z = f.four in absurd (omega (arith, z))
packed_rooms_are_unpacked (a ∷ []) f = let z = f.four in absurd (omega (arith, z))
packed_rooms_are_unpacked (a ∷ b ∷ []) f = let z = f.four in absurd (omega (arith, z))
packed_rooms_are_unpacked (a ∷ b ∷ c ∷ []) f = let z = f.four in absurd (omega (arith, z))
packed_rooms_are_unpacked (a ∷ b ∷ c ∷ d ∷ []) f =
    let bs = right (room_small a) _ f.small in
    let cs = right (room_small b) _ bs in
    let ds = right (room_small c) _ cs in
    four_unpacked a b c d (left (room_small a) _ f.small) (left (room_small b) _ bs) (left (room_small c) _ cs) (left (room_small d) _ ds)
packed_rooms_are_unpacked (a ∷ b ∷ c ∷ d ∷ x ∷ rs) f = let z = f.four in absurd (omega (arith, z))

pub held_rooms_are_packed : HeldRoomsArePacked
unfolding is_rooms held_rooms held_room packed_rooms packed_room
held_rooms_are_packed s small ok =
    let whole : eqb (length s) 20 ≡ true = search (left, right) depth 20 in
    let first : leb (get_or s 0 0) 2 ≡ true = search (left, right) depth 20 in
    let second : leb (get_or s 5 0) 2 ≡ true = search (left, right) depth 20 in
    let third : leb (get_or s 10 0) 2 ≡ true = search (left, right) depth 20 in
    let fourth : leb (get_or s 15 0) 2 ≡ true = search (left, right) depth 20 in
    rw (
      wait_back (get_or s 0 0) (leb-true _ _ first),
      bytes_number 2 1 s small,
      bytes_number 2 3 s small,
      wait_back (get_or s 5 0) (leb-true _ _ second),
      bytes_number 2 6 s small,
      bytes_number 2 8 s small,
      wait_back (get_or s 10 0) (leb-true _ _ third),
      bytes_number 2 11 s small,
      bytes_number 2 13 s small,
      wait_back (get_or s 15 0) (leb-true _ _ fourth),
      bytes_number 2 16 s small,
      bytes_number 2 18 s small,
    )
    (items_drop 20 0 s 0 (eqb-true _ _ whole))
