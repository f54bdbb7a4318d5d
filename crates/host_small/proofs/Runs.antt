-- The archive's run is host's, turn by turn, and what is proved of that holds of it.
use Prim.Native.Nat.{ℕ}
use mathlib.Core.Path.{◌≡◌, refl, sym, ◌∙◌, ap}
use mathlib.Core.List.{List, [], ◌∷◌}
use Rattle.demands.specs.Runs.{Turn}
use Rattle.host.specs.Entries.{Left, freshened, host_step}
use Rattle.host.specs.Runs.{host_run, after}
use Rattle.host.proofs.Runs.{run_is_packed, turn_is_step, turn_reads_back, plane_by_history}
use Rattle.host_small.specs.Runs.{Archive, Promised, archive_run, Leaves, Keeps, RunBy, none, turn, SameArchive, RunIsHosts, OneRun, RunIsPacked, TurnIsStep, TurnReadsBack, PlaneByHistory}

pub same_archive : SameArchive
same_archive x y p q = (λ s. p.fresh s ∙ sym (q.fresh s), λ s event out. p.step s event out ∙ sym (q.step s event out))

run_from : (x : Archive) → Promised x → (s : List ℕ) (ts : List Turn) → archive_run x s ts ≡ host_run s ts
unfolding archive_run host_run
run_from x p s [] = refl
run_from x p s (t ∷ ts) = rw (p.step s t.event t.buffer) (run_from x p (host_step s t.event t.buffer).call ts)

pub run_is_hosts : RunIsHosts
run_is_hosts x p s ts = rw (p.fresh s) (run_from x p (freshened s).1 ts)

bytes_by : (x : Leaves) → Keeps x → {s last : List ℕ} {ts : List Turn} → RunBy x s ts last → last ≡ host_run s ts
unfolding host_run
bytes_by x k none = refl
bytes_by x k (turn {s} {last} {t} {ts} {l} h rest) = bytes_by x k rest ∙ ap (λ (w : Left). host_run w.call ts) (k.step s t l h)

from_fresh : (x : Leaves) → Keeps x → (s last : List ℕ) (w : ℕ × List ℕ) (ts : List Turn) → x.fresh s w → RunBy x w.1 ts last → last ≡ after s ts
from_fresh x k s last w ts f r = bytes_by x k r ∙ ap (λ (v : ℕ × List ℕ). host_run v.1 ts) (k.fresh s w f)

pub one_run : OneRun
one_run first second p q s one other w₁ w₂ ts f g r u =
    let x = from_fresh first p s one w₁ ts f r in
    let y = from_fresh second q s other w₂ ts g u in
    (x, y, λ t l₁ l₂ h k. p.step one t l₁ h ∙ ap (λ (b : List ℕ). host_step b t.event t.buffer) (x ∙ sym y) ∙ sym (q.step other t l₂ k))

pub small_run_is_packed : RunIsPacked
small_run_is_packed x p s ts h = run_is_hosts x p s ts ∙ run_is_packed s ts h

pub small_turn_is_step : TurnIsStep
small_turn_is_step x p s ts t h = rw (run_is_hosts x p s ts, p.step (after s ts) t.event t.buffer) (turn_is_step s ts t h)

pub small_turn_reads_back : TurnReadsBack
small_turn_reads_back x p s ts t h = rw (run_is_hosts x p s ts, p.step (after s ts) t.event t.buffer) (turn_reads_back s ts t h)

pub small_plane_by_history : PlaneByHistory
small_plane_by_history x p s ts h = rw (run_is_hosts x p s ts) (plane_by_history s ts h)
