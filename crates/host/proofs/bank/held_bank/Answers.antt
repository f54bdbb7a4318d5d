-- A part that fails makes the whole test false; where none does, the fields are read.
use mathlib.Core.Path.{◌≡◌, sym, ◌∙◌}
use mathlib.Core.Bool.{false}
use Rattle.std.specs.Prelude.{Some}
use borrow.Author.Rules.{rules}
use borrow.Author.Tests.{ne_eqb}
use Rattle.host.specs.Bank.{is_bank, held_bank}
use Rattle.host.proofs.BankAnswers.{of_flags}
use Rattle.timers.proofs.Sevens.{seven_are}
use Rattle.host.proofs.bank.held_bank.Goals.{then-s-ne-BYTES-via-then-s-ne-BYTES, then-s-ne-BYTES-via-else-s-ne-BYTES+then-not-all_at_most}
use Rattle.host.proofs.bank.held_bank.Goals as goal

pub returns-then-s-ne-BYTES : goal.returns-then-s-ne-BYTES
unfolding is_bank
returns-then-s-ne-BYTES c =
    elim c.then-s-ne-BYTES.branch [
      | then-s-ne-BYTES-via-then-s-ne-BYTES w ↦ rw (ne_eqb _ _ w.if-s-ne-BYTES.true)
      | then-s-ne-BYTES-via-else-s-ne-BYTES+then-not-all_at_most w ↦ rw (of_flags _ w.if-s-ne-BYTES.false ∙ sym w.all_at_most.ensures ∙ w.if-not-all_at_most.true)
    ]

pub returns : goal.returns
unfolding held_bank
returns c =
    let deadlines : c.from_fn.result ≡ (held_bank c.args.s.now).deadlines
    = seven_are 0 (search rules) (search rules) (search rules) (search rules) (search rules) (search rules) (search rules) (search rules) in
    let running : c.from_fn-2.result ≡ (held_bank c.args.s.now).running
    = seven_are false (search rules) (search rules) (search rules) (search rules) (search rules) (search rules) (search rules) (search rules) in
    rw (of_flags _ c.if-s-ne-BYTES.false ∙ sym c.all_at_most.ensures ∙ c.if-not-all_at_most.false)
    (λ i. Some (record { last = c.long_at.ensures i; deadlines = deadlines i; running = running i }))
