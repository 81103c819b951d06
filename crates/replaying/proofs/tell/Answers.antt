use Rattle.std.proofs.lemmas.Result.{IfOk-weaker}
use Rattle.replaying.specs.Replays.{Told}
use Rattle.replaying.proofs.tell.Goals as goal

pub returns-clause-made : goal.returns-clause-made
returns-clause-made c =
    let made = rw c.deref.ensures.value at c.in_ok-keepers.ensures.made in
    IfOk-weaker c.told.result _ (λ told. Told c.args.bytes.now told.items) (λ told e.
    record {
      words = c.in_ok-words.words.items;
      head = made.0;
      entries = made.1;
      keepers = c.in_ok-keepers.keepers.items;
      answers = c.in_ok-keepers.answers.items;
      fit = c.in_ok-words.ensures.fit;
      bytes = c.in_ok-words.ensures.words;
      made = made.2;
      tells = rw (c.deref-2.ensures.value, c.deref-3.ensures.value) at e;
    }) c.told.ensures.bytes
