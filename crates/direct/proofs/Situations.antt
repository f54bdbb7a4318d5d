-- The row of an event, and soundness, where the state is known.
use mathlib.Core.Path.{◌≡◌, ◌∙◌, ap}
use mathlib.Core.Bool.{Bool, true, false, cond}
use Rattle.direct.specs.declared.events.Event.{Event}
use Rattle.direct.specs.declared.call.State.{State}
use Rattle.direct.specs.declared.call.Call.{Call}
use Rattle.direct.specs.Call.{sound_in, sound}
use Rattle.direct.specs.Rows.{reporting, waiting, in_state, row_for}

module _ (c : Call) where
  pub sound_in_lem : (s : State) → c.state ≡ s → sound c ≡ sound_in s c
  unfolding sound
  sound_in_lem s h = ap (λ (x : State). sound_in x c) h

  module _ (e : Event) where
    pub row_in : (s : State) → c.state ≡ s → row_for c e ≡ in_state s c e
    unfolding row_for
    row_in s h = ap (λ (x : State). in_state x c e) h

    pub row_waiting : c.state ≡ State.PresenceCheck → c.dt303 ≡ true → row_for c e ≡ waiting c e
    row_waiting s d = row_in State.PresenceCheck s ∙ ap (λ (b : Bool). cond b (waiting c e) (reporting c e)) d

    pub row_reporting : c.state ≡ State.PresenceCheck → c.dt303 ≡ false → row_for c e ≡ reporting c e
    row_reporting s d = row_in State.PresenceCheck s ∙ ap (λ (b : Bool). cond b (waiting c e) (reporting c e)) d
