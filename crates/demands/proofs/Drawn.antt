-- What a row draws, verb by verb: where the record then stands, its plane, mode and kept plane, and that the row's CONFIGURE, if it
-- has one, tells that plane.
use Prim.Native.Nat.{ℕ}
use mathlib.Core.Path.{◌≡◌, refl, ◌∙◌, ap, subst}
use mathlib.Core.Bool.{Bool, true, false, cond, not, ◌||◌, true≢false}
use mathlib.Core.List.{List, [], ◌∷◌, ◌++◌}
use borrow.Author.Tests.{eqb-true}
use lib.Dec.{eqb}
use lib.ListN.{get_or}
use Rattle.records.specs.declared.messages.Message.{Message}
use Rattle.callcontrol.specs.declared.call.State.{State}
use Rattle.callcontrol.specs.declared.call.Path.{Path}
use Rattle.callcontrol.specs.declared.call.Call.{Call}
use Rattle.callcontrol.specs.Draft.{Slot, Draft}
use Rattle.callcontrol.specs.Call.{T301, T302, T303, T306, T308, T310, T311}
use Rattle.callcontrol.specs.Draft.{◌▷◌, with, draft, go, on_path, store_id, store_address, store_mode, store_asked, store_sent, store_code, store_slots, keep, stop, stop_all, start, expired, restart, same_plane, plane, off, grant, grant_or_off, cancel, say, tell, tell_modified, over, release}
use Rattle.callcontrol.specs.Writing.{when, held, by_number, starting, messages_in}
use Rattle.demands.specs.Runs.{told_after, last_told}
use Rattle.demands.specs.History.{granted}

-- ---- what the messages of a row tell

-- a message that is no CONFIGURE, and a slot that holds none
abbrev pub Plain : Message → Type 0
Plain m = (p : ℕ) → told_after p m ≡ p

abbrev pub PlainSlot : Slot → Type 0
PlainSlot Slot.Empty = Unit {0}
PlainSlot (Slot.Holds m) = Plain m

pub last_told-append : (p : ℕ) (a b : List Message) → last_told p (a ++ b) ≡ last_told (last_told p a) b
unfolding last_told
last_told-append p [] b = refl
last_told-append p (m ∷ a) b = last_told-append (told_after p m) a b

-- messages that tell nothing
passed : (p : ℕ) (a b : List Message) → last_told p a ≡ p → last_told p (a ++ b) ≡ last_told p b
passed p a b e = last_told-append p a b ∙ ap (λ q. last_told q b) e

when_plain : (p : ℕ) (b : Bool) (m : Message) → Plain m → last_told p (when b m) ≡ p
unfolding last_told
when_plain p true m plain = plain p
when_plain p false m plain = refl

held_plain : (p : ℕ) (s : Slot) → PlainSlot s → last_told p (held s) ≡ p
unfolding last_told
held_plain p Slot.Empty plain = refl
held_plain p (Slot.Holds m) plain = plain p

by_number_plain : (p : ℕ) (order : ℕ → Message) (flags : List Bool) → ((n : ℕ) → Plain (order n)) → last_told p (by_number order flags) ≡ p
unfolding by_number
by_number_plain p order flags plain =
    let each : (k n : ℕ) → last_told p (when (get_or flags k false) (order n)) ≡ p = λ k n. when_plain p (get_or flags k false) (order n) (plain n) in
    passed p _ _ (each T301 301)
    ∙ passed p _ _ (each T302 302)
    ∙ passed p _ _ (each T303 303)
    ∙ passed p _ _ (each T306 306)
    ∙ passed p _ _ (each T308 308)
    ∙ passed p _ _ (each T310 310)
    ∙ each T311 311

stop_plain : (n : ℕ) → Plain (Message.Stop n)
unfolding told_after
stop_plain n p = refl

start_plain : (code n : ℕ) → Plain (starting code n)
unfolding told_after starting
start_plain code n p = refl

cancel_plain : Plain Message.Cancel
unfolding told_after
cancel_plain p = refl

configured : (p t : ℕ) (user : Slot) (b : Bool) → PlainSlot user → last_told p (when (not b) (Message.Configure t) ++ held user) ≡ cond b p t
unfolding last_told told_after
configured p t user true plain = held_plain p user plain
configured p t user false plain = held_plain t user plain

-- what the lower layers were last told after a row: what its CONFIGURE tells, or what they were told before
pub messages_tell : (p : ℕ) (d : Draft) → PlainSlot d.pdu → PlainSlot d.user → last_told p (messages_in d) ≡ cond (eqb d.configure 0) p d.configure
unfolding messages_in
messages_tell p d pdu user =
    passed p _ _ (by_number_plain p Message.Stop d.stops stop_plain)
    ∙ passed p _ _ (when_plain p d.cancel Message.Cancel cancel_plain)
    ∙ passed p _ _ (held_plain p d.pdu pdu)
    ∙ passed p _ _ (by_number_plain p (starting d.call.code) d.starts (start_plain d.call.code))
    ∙ configured p d.configure d.user (eqb d.configure 0) user

-- ---- what the verbs draw

-- a row tells the plane, or says nothing and the plane is what it was
pub data Tells (was plane : ℕ) : ℕ → Type 0 where
  silent : was ≡ plane → Tells was plane 0
  loud : Tells was plane plane

pub record Facts (was : ℕ) (s : State) (p m k : ℕ) (state : State) (plane mode kept told : ℕ) (pdu user : Slot) : Type 0 where
  pub state_is : state ≡ s
  pub plane_is : plane ≡ p
  pub mode_is : mode ≡ m
  pub kept_is : kept ≡ k
  pub tells : Tells was p told
  pub pdu_plain : PlainSlot pdu
  pub user_plain : PlainSlot user

-- a draft from a call: the state s, the plane p, the mode m and the kept plane k
pub record Drawn (c : Call) (s : State) (p m k : ℕ) (d : Draft) : Type 0 where
  pub is : Facts c.plane s p m k d.call.state d.call.plane d.call.mode d.call.kept d.configure d.pdu d.user

drawn : {c : Call} {s : State} {p m k : ℕ} {d : Draft} → d.call.state ≡ s → d.call.plane ≡ p → d.call.mode ≡ m → d.call.kept ≡ k
    → Tells c.plane p d.configure → PlainSlot d.pdu → PlainSlot d.user → Drawn c s p m k d
drawn state plane mode kept tells pdu user =
    record { is = record { state_is = state; plane_is = plane; mode_is = mode; kept_is = kept; tells = tells; pdu_plain = pdu; user_plain = user } }

pub begun : {c : Call} {s : State} {p m : ℕ} → c.state ≡ s → c.plane ≡ p → c.mode ≡ m → Drawn c s p m c.kept (draft c)
unfolding draft
begun s p m = drawn s p m refl (silent p) tt tt

-- the call with another plane, before anyone is told
abbrev on_plane : ℕ → Draft → Draft
on_plane x d =
    with d
    (record { state = d.call.state; id = d.call.id; address = d.call.address; mode = d.call.mode; asked = d.call.asked; sent = d.call.sent; path = d.call.path; plane = x; kept = d.call.kept; code = d.call.code; slots = d.call.slots; timers = d.call.timers })

module _ {c : Call} {s : State} {p m k : ℕ} {d : Draft} where
  -- verbs that change none of it

  pub on_path_lem : (x : Path) → Drawn c s p m k d → Drawn c s p m k (on_path x d)
  unfolding on_path
  on_path_lem x f = record { is = f.is }

  pub named : (x : ℕ) → Drawn c s p m k d → Drawn c s p m k (store_id x d)
  unfolding store_id
  named x f = record { is = f.is }

  pub addressed : (x : ℕ) → Drawn c s p m k d → Drawn c s p m k (store_address x d)
  unfolding store_address
  addressed x f = record { is = f.is }

  pub asking : (x : ℕ) → Drawn c s p m k d → Drawn c s p m k (store_asked x d)
  unfolding store_asked
  asking x f = record { is = f.is }

  pub sending : (x : ℕ) → Drawn c s p m k d → Drawn c s p m k (store_sent x d)
  unfolding store_sent
  sending x f = record { is = f.is }

  pub coded : (x : ℕ) → Drawn c s p m k d → Drawn c s p m k (store_code x d)
  unfolding store_code
  coded x f = record { is = f.is }

  pub slotted : (x : ℕ) → Drawn c s p m k d → Drawn c s p m k (store_slots x d)
  unfolding store_slots
  slotted x f = record { is = f.is }

  pub stopped : (x : ℕ) → Drawn c s p m k d → Drawn c s p m k (stop x d)
  unfolding stop
  stopped x f = record { is = f.is }

  pub started : (x : ℕ) → Drawn c s p m k d → Drawn c s p m k (start x d)
  unfolding start
  started x f = record { is = f.is }

  pub ran_out : (x : ℕ) → Drawn c s p m k d → Drawn c s p m k (expired x d)
  unfolding expired
  ran_out x f = record { is = f.is }

  pub stopped_all : Drawn c s p m k d → Drawn c s p m k (stop_all d)
  unfolding stop_all stop
  stopped_all f = record { is = f.is }

  pub cancelled : Drawn c s p m k d → Drawn c s p m k (cancel d)
  unfolding cancel
  cancelled f = record { is = f.is }

  -- messages that are no CONFIGURE

  pub saying : (x : Message) → Plain x → Drawn c s p m k d → Drawn c s p m k (say x d)
  unfolding say
  saying x plain f = let g = f.is in drawn g.state_is g.plane_is g.mode_is g.kept_is g.tells plain g.user_plain

  pub telling : (x : Message) → Plain x → Drawn c s p m k d → Drawn c s p m k (tell x d)
  unfolding tell
  telling x plain f = let g = f.is in drawn g.state_is g.plane_is g.mode_is g.kept_is g.tells g.pdu_plain plain

  pub telling_modified : (x : ℕ) → Drawn c s p m k d → Drawn c s p m k (tell_modified x d)
  unfolding tell_modified told_after
  telling_modified x f = telling _ (λ q. refl) f

  -- verbs that change one part

  pub gone : (x : State) → Drawn c s p m k d → Drawn c x p m 4 (go x d)
  unfolding go
  gone x f = let g = f.is in drawn refl g.plane_is g.mode_is refl g.tells g.pdu_plain g.user_plain

  pub in_mode : (x : ℕ) → Drawn c s p m k d → Drawn c s p x k (store_mode x d)
  unfolding store_mode
  in_mode x f = let g = f.is in drawn g.state_is g.plane_is refl g.kept_is g.tells g.pdu_plain g.user_plain

  pub keeping : (x : ℕ) → Drawn c s p m k d → Drawn c s p m x (keep x d)
  unfolding keep
  keeping x f = let g = f.is in drawn g.state_is g.plane_is g.mode_is refl g.tells g.pdu_plain g.user_plain

  pub told_again : Drawn c s p m k d → Drawn c s p m k (same_plane d)
  unfolding same_plane
  told_again f = let g = f.is in drawn g.state_is g.plane_is g.mode_is g.kept_is (rw g.plane_is loud) g.pdu_plain g.user_plain

  -- a plane

  told_plane : (x : ℕ) → Drawn c s p m k d → Drawn c s x m k (same_plane (on_plane x d))
  unfolding same_plane
  told_plane x f = let g = f.is in drawn g.state_is refl g.mode_is g.kept_is loud g.pdu_plain g.user_plain

  timed : (b : Bool) → Drawn c s p m k d → Drawn c s p m k (cond b (start T311) (stop T311) d)
  timed true f = started T311 f
  timed false f = stopped T311 f

restart_by : {c : Call} {s : State} {p m k : ℕ} {d : Draft} (b : Bool) (o : ℕ) → Drawn c s p m k d → Drawn c s p m k (cond b (start T310 (store_code o d)) d)
restart_by true o f = f ▷ coded o ▷ started T310
restart_by false o f = f

pub restarted : {c : Call} {s : State} {p m k : ℕ} {d : Draft} (r o : ℕ) → Drawn c s p m k d → Drawn c s p m k (restart r o d)
unfolding restart
restarted {d} r o f = restart_by (eqb r 1) (cond (eqb o 16) d.call.code o) f

pub at_plane : {c : Call} {s : State} {p m k : ℕ} {d : Draft} (x : ℕ) → Drawn c s p m k d → Drawn c s x m k (plane x d)
unfolding plane
at_plane x f = timed (eqb x 1) (told_plane x f)

pub switched_off : {c : Call} {s : State} {p m k : ℕ} {d : Draft} → Drawn c s p m k d → Drawn c s 4 m k (off d)
unfolding off
switched_off f = at_plane 4 f

-- the end of a call leaves the fresh record, whose plane is off
pub ended : {c : Call} {s : State} {m k : ℕ} {d : Draft} → Drawn c s 4 m k d → Drawn c State.Idle 4 0 4 (over d)
unfolding over
ended f = let g = f.is in drawn refl refl refl refl g.tells g.pdu_plain g.user_plain

pub releases : {c : Call} {s : State} {p m k : ℕ} {d : Draft} (cause : ℕ) → Drawn c s p m k d → Drawn c State.CallDisconnect 4 m 4 (release cause d)
unfolding release told_after
releases cause f =
    f ▷ stopped_all ▷ saying _ (λ q. refl) ▷ started T308 ▷ switched_off ▷ sending 0 ▷ asking 0 ▷ on_path_lem Path.Up ▷ gone State.CallDisconnect

-- grant rule G
module _ {c : Call} {s : State} {m k : ℕ} where
  grant_by : {p : ℕ} {d : Draft} → Drawn c s p m k d → (zero one three : Bool) → (one ≡ true → three ≡ false) →
      Drawn c s (cond zero (cond (eqb m 1) 3 1) (cond three 2 p)) m k
      (cond zero (plane (cond (eqb d.call.mode 1) 3 1) (store_asked 0 d)) (cond one (store_asked 0 d) (cond three (plane 2 d) d)))
  grant_by {p} {d} f true one three no_both =
      let x : ℕ = cond (eqb d.call.mode 1) 3 1 in
      subst (λ y. Drawn c s (cond (eqb y 1) 3 1) m k (plane x (store_asked 0 d))) f.is.mode_is (f ▷ asking 0 ▷ at_plane x)
  grant_by f false true true no_both = let z : true ≡ false = no_both refl in absurd (true≢false z)
  grant_by f false true false no_both = asking 0 f
  grant_by f false false true no_both = at_plane 2 f
  grant_by f false false false no_both = f

  pub grants : {p : ℕ} {d : Draft} (g : ℕ) → Drawn c s p m k d → Drawn c s (granted g m p) m k (grant g d)
  unfolding grant
  grants g f = grant_by f (eqb g 0) (eqb g 1) (eqb g 3) (λ one. rw (eqb-true g 1 one))

  -- from off, a grant that gives no plane leaves off
  pub grants_or_off : {d : Draft} (g : ℕ) → Drawn c s 4 m k d → Drawn c s (granted g m 4) m k (grant_or_off g d)
  unfolding grant_or_off
  grants_or_off {d} g f = by (eqb g 1 || eqb g 2) (ungranted g (eqb g 1) refl)
    where
      ungranted : (g : ℕ) (one : Bool) → eqb g 1 ≡ one → (one || eqb g 2) ≡ true → granted g m 4 ≡ 4
      ungranted g true e h = rw (eqb-true g 1 e)
      ungranted g false e h = rw (eqb-true g 2 h)

      by : (b : Bool) → (b ≡ true → granted g m 4 ≡ 4) → Drawn c s (granted g m 4) m k (cond b (off (grant g d)) (grant g d))
      by true four = rw (four refl) (switched_off (grants g f))
      by false four = grants g f
