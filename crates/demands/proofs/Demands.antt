-- Every demand is met.
use Prim.Native.Nat.{ℕ}
use mathlib.Core.Path.{◌≡◌, sym, ◌∙◌, ap}
use mathlib.Core.Bool.{Bool, true, false, cond}
use mathlib.Core.List.{List, [], ◌∷◌, ◌++◌}
use native.Mathlib.Omega.{arith}
use Rattle.callcontrol.specs.declared.call.Call.{Call}
use Rattle.callcontrol.specs.Call.{fresh_call, sound}
use Rattle.callcontrol.specs.Step.{step_of}
use Rattle.demands.specs.Runs.{outcome, run}
use Rattle.demands.specs.Demands as claims
use Rattle.demands.specs.Demands.{applies}
use Rattle.demands.proofs.Answers as Answers
use Rattle.demands.proofs.Sound as Sound
use Rattle.demands.proofs.Told as Told
use Rattle.demands.proofs.Ended as Ended
use Rattle.demands.proofs.Cut as Cut
use Rattle.demands.proofs.WrittenInRange as WrittenInRange
use Rattle.demands.proofs.ReadsBack as ReadsBack
use Rattle.demands.proofs.Identified as Identified
use Rattle.demands.proofs.Slotted as Slotted
use Rattle.demands.proofs.Timers as Timers
use Rattle.demands.proofs.Bound as Bound
use Rattle.demands.proofs.Examples as Examples
use Rattle.demands.proofs.Tracked as Tracked
use Rattle.demands.proofs.Once as Once
use Rattle.demands.proofs.Expiries as Expiries
use Rattle.demands.proofs.Lapses as Lapses
use Rattle.demands.proofs.Limits as Limits

-- ---- demand 1

pub answered : claims.Answered
answered = Answers.answered

pub refuses : claims.Refused
refuses = Answers.refuses

pub placed : claims.Placed
placed = Answers.placed

pub place_only_with_four : claims.PlaceOnlyWithFour
place_only_with_four = Answers.place_only_with_four

pub fresh_is_sound : claims.FreshIsSound
fresh_is_sound = Sound.fresh_is_sound

pub keeps_sound : claims.KeepsSound
keeps_sound = Sound.keeps_sound

pub step_keeps_sound : claims.StepKeepsSound
step_keeps_sound = Sound.step_keeps_sound

pub run_sound : claims.Sound
run_sound ts = (Sound.always ts).meets

-- the first that applies of 2 3 9 4 5 6 8 7, or none, is not 1
not_one : (b₂ b₃ b₉ b₄ b₅ b₆ b₈ b₇ : Bool) → ◌≡◌ {A = ℕ} (cond b₂ 2 (cond b₃ 3 (cond b₉ 9 (cond b₄ 4 (cond b₅ 5 (cond b₆ 6 (cond b₈ 8 (cond b₇ 7 0)))))))) 1 → ⊥
not_one true b₃ b₉ b₄ b₅ b₆ b₈ b₇ e = omega arith
not_one false true b₉ b₄ b₅ b₆ b₈ b₇ e = omega arith
not_one false false true b₄ b₅ b₆ b₈ b₇ e = omega arith
not_one false false false true b₅ b₆ b₈ b₇ e = omega arith
not_one false false false false true b₆ b₈ b₇ e = omega arith
not_one false false false false false true b₈ b₇ e = omega arith
not_one false false false false false false true b₇ e = omega arith
not_one false false false false false false false true e = omega arith
not_one false false false false false false false false e = omega arith

sound_answer : (c : Call) (bytes buffer : List ℕ) → sound c ≡ true → (step_of c bytes buffer).answer ≡ 1 → ⊥
unfolding applies
sound_answer c bytes buffer s e =
    let p : ℕ → Bool = λ n. applies n c bytes buffer in
    let unsound : applies 1 c bytes buffer ≡ false = rw s in
    not_one (p 2) (p 3) (p 9) (p 4) (p 5) (p 6) (p 8) (p 7)
    (sym (answered c bytes buffer ∙ ap (λ (b : Bool). cond b 1 (cond (p 2) 2 (cond (p 3) 3 (cond (p 9) 9 (cond (p 4) 4 (cond (p 5) 5 (cond (p 6) 6 (cond (p 8) 8 (cond (p 7) 7 0))))))))) unsound) ∙ e)

pub never_unsound : claims.NeverUnsound
unfolding outcome
never_unsound ts t = sound_answer (run fresh_call ts) t.event t.buffer (run_sound ts)

-- ---- demand 2

pub zero_is_taken : claims.Zero
zero_is_taken = Answers.zero_is_taken

pub taken_gives : claims.Taken
taken_gives = Answers.taken_gives

pub step_in_range : claims.StepInRange
step_in_range = WrittenInRange.step_in_range

pub no_u_info : claims.NoUInfo
no_u_info = WrittenInRange.no_u_info

pub written_in_range : claims.WrittenInRange
written_in_range = WrittenInRange.written_in_range

pub reads_back : claims.ReadsBack
reads_back = ReadsBack.reads_back

-- ---- how large a buffer to lend

pub timers : claims.Timers
timers = Timers.timers

pub sent_before_t302 : claims.SentBeforeT302
sent_before_t302 = Timers.sent_before_t302

pub at_most_32 : claims.AtMost32
at_most_32 = Bound.at_most_32

pub writes_32 : claims.Writes32
writes_32 = Examples.writes_32

pub enough_32 : claims.Enough32
enough_32 = Bound.enough_32

pub at_most_52 : claims.AtMost52
at_most_52 = Bound.at_most_52

pub writes_52 : claims.Writes52
writes_52 = Examples.writes_52

-- ---- demand 3

pub told_by_history : claims.Told
told_by_history = Told.told_by_history

pub cut : claims.Cut
cut = Cut.cut

pub restored : claims.Restored
restored = Cut.restored

pub ended : claims.Ended
ended = Ended.ended

pub ended_off : claims.EndedOff
ended_off ts t e = Told.told_is_plane (ts ++ t ∷ []) ∙ ap (λ (c : Call). c.plane) (ended ts t e)

pub no_other_end : claims.NoOtherEnd
no_other_end = Ended.no_other_end

pub ended_one_slot : claims.EndedOneSlot
ended_one_slot = Slotted.ended_one_slot

-- ---- slots per frame

pub slotted : claims.Slotted
slotted = Slotted.slotted

pub one_slot : claims.OneSlot
one_slot = Slotted.one_slot

-- ---- in the client's words

pub idle_is_fresh : claims.IdleIsFresh
idle_is_fresh = Ended.idle_is_fresh

pub identified : claims.Identified
identified = Identified.identified

pub transmits : claims.Transmits
transmits = Identified.transmits

-- ---- no timer left behind

pub timers_by_messages : claims.TimersByMessages
timers_by_messages = Tracked.timers_by_messages

pub none_in_idle : claims.NoneInIdle
none_in_idle = Tracked.none_in_idle

pub one_u_disconnect : claims.OneUDisconnect
one_u_disconnect = Once.one_u_disconnect

pub one_u_release : claims.OneURelease
one_u_release = Once.one_u_release

pub release_leaves_fresh : claims.ReleaseLeavesFresh
release_leaves_fresh = Expiries.release_leaves_fresh

pub late_expiry : claims.LateExpiry
late_expiry = Expiries.late_expiry

pub due_expiry : claims.DueExpiry
due_expiry = Expiries.due_expiry

-- ---- calls end by their timers alone

pub at_most_three_due : claims.AtMostThreeDue
at_most_three_due = Lapses.at_most_three_due

pub none_after_three : claims.NoneAfterThree
none_after_three = Lapses.none_after_three

pub none_runs_lem : claims.NoneRuns
none_runs_lem = Lapses.none_runs_lem

-- ---- T310 code 0

pub starts_with_limit : claims.StartsWithLimit
starts_with_limit = Limits.starts_with_limit

pub no_limit_no_expiry : claims.NoLimitNoExpiry
no_limit_no_expiry = Lapses.no_limit_no_expiry

-- ---- no change of service over a speaker

pub no_info_over_speech : claims.NoInfoOverSpeech
no_info_over_speech = Identified.no_info_over_speech
