-- What the step's claims say of a place: its record and its messages are those of the step's run over the turns that went to it.
use mathlib.Core.Path.{refl, ◌∙◌, ap}
use mathlib.Core.Bool.{not}
use mathlib.Core.List.{List, [], ◌∷◌, ◌++◌}
use Rattle.callcontrol.specs.declared.call.Call.{Call}
use Rattle.callcontrol.specs.Call.{fresh_call}
use Rattle.demands.specs.Runs.{Turn, outcome, next, run, written_by, written_in, told, is_u_info}
use Rattle.demands.specs.Demands.{Kept}
use Rattle.demands.proofs.Writes.{All, both}
use Rattle.demands.proofs.Demands as step-demands
use Rattle.console.specs.Table.{fresh_table}
use Rattle.console.specs.Runs.{went_in}
use Rattle.console.specs.Demands as claims
use Rattle.console.proofs.Demands.{records, split, went-append, ended_at}
use Rattle.console.proofs.Heard.{messages_at}

pub ended_off_at : claims.EndedOffAt
unfolding went_in
ended_off_at ts t k v lt went is =
    ap (λ (z : List Turn). told z) (split ts [] t k v went)
    ∙ step-demands.ended_off (claims.turns_at k ts) v (rw (records ts k lt) at is)

pub ended_one_slot_at : claims.EndedOneSlotAt
ended_one_slot_at ts t k v lt went is = ap (λ (c : Call). c.slots) (ended_at ts t k v lt went is)

pub slotted_at : claims.SlottedAt
slotted_at ts k lt busy = rw (records ts k lt) (step-demands.slotted (claims.turns_at k ts) (rw (records ts k lt) at busy))

pub one_slot_at : claims.OneSlotAt
one_slot_at ts us k lt idle none =
    ap (λ (c : Call). c.slots) (records (ts ++ us) k lt ∙ ap (λ (z : List Turn). run fresh_call z) (went-append k fresh_table ts us))
    ∙ step-demands.one_slot (claims.turns_at k ts) (went_in k (claims.after ts) us) (rw (records ts k lt) at idle) (rw (records ts k lt) at none)

pub idle_is_fresh_at : claims.IdleIsFreshAt
idle_is_fresh_at ts k lt idle = rw (records ts k lt) (step-demands.idle_is_fresh (claims.turns_at k ts) (rw (records ts k lt) at idle))

pub identified_at : claims.IdentifiedAt
identified_at ts k lt busy = rw (records ts k lt) (step-demands.identified (claims.turns_at k ts) (rw (records ts k lt) at busy))

pub transmits_at : claims.TransmitsAt
transmits_at ts k lt on = rw (records ts k lt) (step-demands.transmits (claims.turns_at k ts) on)

pub written_in_range_at : claims.WrittenInRangeAt
written_in_range_at ts k lt = rw (messages_at ts k lt) (step-demands.written_in_range (claims.turns_at k ts))

-- no message of some turns is U-INFO, as none of a turn is
others : (c : Call) (ts : List Turn) → Kept c → All (λ m. not (is_u_info m)) (written_in c ts)
unfolding written_in next outcome
others c [] k = record { met = refl }
others c (t ∷ ts) k =
    both (λ m. not (is_u_info m)) (written_by c t) (written_in (next c t) ts) (record { met = step-demands.no_u_info c t k })
    (others (next c t) ts (step-demands.step_keeps_sound c t.event t.buffer k))

pub no_u_info_at : claims.NoUInfoAt
no_u_info_at ts k lt = rw (messages_at ts k lt) (others fresh_call (claims.turns_at k ts) step-demands.fresh_is_sound).met
