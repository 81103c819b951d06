use Rattle.std.proofs.Common.{◌∙◌}
use Rattle.owned.proofs.BatchLaws.{turned}
use Rattle.owned.proofs.batches.offer.Goals as goal

pub returns-clause-answer : goal.returns-clause-answer
returns-clause-answer c =
    let x = turned c.args.state.now c.args.table.now c.requires.reads c.args.entry in
    let d = rw c.words_of.ensures at c.accept.ensures.done in
    c.plain.ensures ∙ d.its_answer ∙ x.answer

pub returns-clause-table : goal.returns-clause-table
returns-clause-table c =
    let x = turned c.args.state.now c.args.table.now c.requires.reads c.args.entry in
    let d = rw c.words_of.ensures at c.accept.ensures.done in
    d.its_table ∙ x.table
