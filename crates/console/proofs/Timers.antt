-- Timers at each place: from the step's claims over the turns that the place has.
use Prim.Native.Nat.{ℕ, ◌<◌}
use mathlib.Core.Path.{◌≡◌, refl, sym, ◌∙◌, ap}
use mathlib.Core.Bool.{Bool, cond}
use mathlib.Core.List.{List, [], ◌∷◌, ◌++◌}
use borrow.Author.Tests.{eq-eqb, lt-ltb}
use native.Mathlib.Omega.{arith}
use Rattle.records.specs.declared.events.Event.{Event}
use Rattle.records.specs.declared.messages.Message.{Message}
use Rattle.records.specs.Tables.{taken, read}
use Rattle.records.specs.Events.{events}
use Rattle.callcontrol.specs.declared.call.Call.{Call}
use Rattle.callcontrol.specs.Call.{fresh_call, is_idle}
use Rattle.callcontrol.specs.Step.{Outcome}
use Rattle.demands.specs.Runs.{Turn, outcome, run}
use Rattle.demands.specs.Clocks.{log_in, running_by}
use Rattle.demands.specs.Demands.{AtMostOne}
use Rattle.demands.proofs.Turns.{accepts}
use Rattle.demands.proofs.Demands as step-demands
use Rattle.console.specs.declared.route.Aim.{Aim}
use Rattle.console.specs.Table.{fresh_table}
use Rattle.console.specs.Route.{Route, aim_of, at_named, route_of}
use Rattle.console.specs.Console.{refuses_at, refuses}
use Rattle.console.specs.Runs.{ConsoleTurn, console_outcome, console_run, lent_behind, went_to, went_in}
use Rattle.console.specs.Demands as claims
use Rattle.console.proofs.Answering.{answers_in_run, behind_five}
use Rattle.console.proofs.Demands.{table_sound_lem, records, split, went-append, went_one, refuses_whole, place_only_with_four}
use Rattle.console.proofs.Heard.{messages_at}
use Rattle.console.proofs.Turns.{run-append}
use Rattle.console.proofs.Went.{went_routed}

pub timers_by_messages_at : claims.TimersByMessagesAt
timers_by_messages_at ts k lt = step-demands.timers_by_messages (claims.turns_at k ts) ∙ ap (λ (c : Call). c.timers) (sym (records ts k lt))

pub timers_at : claims.TimersAt
timers_at ts k lt = rw (records ts k lt) (step-demands.timers (claims.turns_at k ts))

pub sent_before_t302_at : claims.SentBeforeT302At
sent_before_t302_at ts k lt = rw (records ts k lt) (step-demands.sent_before_t302 (claims.turns_at k ts))

pub none_in_idle_at : claims.NoneInIdleAt
none_in_idle_at ts k lt idle = step-demands.none_in_idle (claims.turns_at k ts) (ap (λ (c : Call). is_idle c) (sym (records ts k lt)) ∙ idle)

one_at : (p : Message → Bool) → AtMostOne p → claims.AtMostOneAt p
one_at p f ts us k lt one =
    let turns = went_in k (claims.after ts) us in rw (records ts k lt) (f (claims.turns_at k ts) turns (rw (records ts k lt) at one))

pub one_u_disconnect_at : claims.OneUDisconnectAt
one_u_disconnect_at = one_at _ step-demands.one_u_disconnect

pub one_u_release_at : claims.OneUReleaseAt
one_u_release_at = one_at _ step-demands.one_u_release

-- ---- events that name a place

module _ (ts : List ConsoleTurn) (t : ConsoleTurn) (e : Event) (lt : t.place < 8) (reads : read events t.event ≡ taken e) (named : aim_of e ≡ Aim.Place) where
  to_it : route_of (claims.after ts) t.place e ≡ Route.To t.place
  unfolding route_of at_named
  to_it = rw (named, lt-ltb t.place 8 lt)

  went_there : went_to t.place (claims.after ts) t ≡ lent_behind 0 t ∷ []
  went_there =
      went_routed (claims.after ts) t t.place (table_sound_lem ts) reads to_it
      ∙ ap (λ (x : Bool). cond x (lent_behind 0 t ∷ []) []) (eq-eqb t.place t.place refl)

  answer_there : (console_outcome (claims.after ts) t).answer ≡ (outcome (run fresh_call (claims.turns_at t.place ts)) (lent_behind 0 t)).answer
  answer_there = answers_in_run ts t e t.place reads to_it

refused_6 : (ts : List ConsoleTurn) (t : ConsoleTurn) → (console_outcome (claims.after ts) t).answer ≡ 6
    → console_outcome (claims.after ts) t ≡ refuses 6 (claims.after ts) t.buffer
refused_6 ts t six =
    refuses_whole (claims.after ts) t 6 six (λ z. omega arith)
    ∙ ap (λ (p : ℕ). refuses_at 6 p (claims.after ts) t.buffer) (place_only_with_four (claims.after ts) t (λ four. omega arith))

pub late_expiry_at : claims.LateExpiryAt
late_expiry_at ts t n lt reads late =
    let calls = claims.after ts in
    let six : (console_outcome calls t).answer ≡ 6 =
    answer_there ts t (Event.Expiry n) lt reads refl
    ∙ ap (λ (o : Outcome). o.answer) (step-demands.late_expiry (claims.turns_at t.place ts) (lent_behind 0 t) n reads late) in
    refused_6 ts t six

pub due_expiry_at : claims.DueExpiryAt
due_expiry_at ts t n lt reads runs lent =
    let before = claims.turns_at t.place ts in
    let v = lent_behind 0 t in
    answer_there ts t (Event.Expiry n) lt reads refl
    ∙ ap (λ (o : Outcome). o.answer)
    (accepts (run fresh_call before) v (Event.Expiry n) (step-demands.due_expiry before v n reads runs (behind_five t.buffer lent))).gives

pub release_leaves_fresh_at : claims.ReleaseLeavesFreshAt
release_leaves_fresh_at ts us t u lt same asks between lapses room room' =
    let k = t.place in
    let v = lent_behind 0 t in
    let w = lent_behind 0 u in
    let here : went_to k (claims.after ts) t ≡ v ∷ [] = went_there ts t Event.ReleaseRequest lt asks refl in
    let table : console_run (claims.after (ts ++ t ∷ [])) us ≡ claims.after ((ts ++ t ∷ []) ++ us) = sym (run-append fresh_table (ts ++ t ∷ []) us) in
    let then : went_to k (claims.after ((ts ++ t ∷ []) ++ us)) u ≡ w ∷ [] =
    ap (λ (j : ℕ). went_to j (claims.after ((ts ++ t ∷ []) ++ us)) u) (sym same) ∙ went_there ((ts ++ t ∷ []) ++ us) u (Event.Expiry 308) (rw same lt) lapses refl in
    let later : went_in k (claims.after (ts ++ t ∷ [])) (us ++ u ∷ []) ≡ w ∷ [] =
    went-append k (claims.after (ts ++ t ∷ [])) us (u ∷ [])
    ∙ ap (λ (z : List Turn). z ++ went_in k (console_run (claims.after (ts ++ t ∷ [])) us) (u ∷ [])) between
    ∙ went_one k (console_run (claims.after (ts ++ t ∷ [])) us) u
    ∙ ap (λ (z : List Call). went_to k z u) table
    ∙ then in
    let turns : claims.turns_at k (ts ++ t ∷ (us ++ u ∷ [])) ≡ claims.turns_at k ts ++ v ∷ w ∷ [] =
    split ts (us ++ u ∷ []) t k v here ∙ ap (λ (z : List Turn). claims.turns_at k ts ++ v ∷ z) later in
    records (ts ++ t ∷ (us ++ u ∷ [])) k lt
    ∙ ap (λ (z : List Turn). run fresh_call z) turns
    ∙ step-demands.release_leaves_fresh (claims.turns_at k ts) v w asks lapses (behind_five t.buffer room) (behind_five u.buffer room')

-- ---- calls end by their timers alone, and T310 code 0

pub at_most_three_due_at : claims.AtMostThreeDueAt
at_most_three_due_at ts us k h = step-demands.at_most_three_due (claims.turns_at k ts) (went_in k (claims.after ts) us) h

pub none_after_three_at : claims.NoneAfterThreeAt
none_after_three_at ts us k h three =
    ap (λ (z : List Turn). running_by (log_in fresh_call z)) (went-append k fresh_table ts us)
    ∙ step-demands.none_after_three (claims.turns_at k ts) (went_in k (claims.after ts) us) h three

pub none_runs_at : claims.NoneRunsAt
none_runs_at ts k lt h = rw (records ts k lt) (step-demands.none_runs_lem (claims.turns_at k ts) h)

pub starts_with_limit_at : claims.StartsWithLimitAt
starts_with_limit_at ts k lt = rw (messages_at ts k lt) (step-demands.starts_with_limit fresh_call (claims.turns_at k ts))

pub no_limit_no_expiry_at : claims.NoLimitNoExpiryAt
no_limit_no_expiry_at ts t lt h reads =
    let calls = claims.after ts in
    let six : (console_outcome calls t).answer ≡ 6 =
    answer_there ts t (Event.Expiry 310) lt reads refl
    ∙ ap (λ (o : Outcome). o.answer)
    (step-demands.no_limit_no_expiry (claims.turns_at t.place ts) (lent_behind 0 t) (ap (λ (c : Call). c.code) (sym (records ts t.place lt)) ∙ h) reads) in
    refused_6 ts t six

pub no_info_over_speech_at : claims.NoInfoOverSpeechAt
no_info_over_speech_at ts t k v i r o d s lt on went h =
    step-demands.no_info_over_speech (claims.turns_at k ts) v i r o d s on (rw (records ts k lt) at h)
