use Rattle.std.proofs.Common.{ap, ◌∙◌}
use Rattle.decks.specs.declared.Way.TheVariants.{Forward, Backward}
use Rattle.decks.specs.Views.{opt}
use Rattle.questions.proofs.Entering.{entered}
use Rattle.questions.proofs.ask_card.Goals as goal

pub returns-clause-placed : goal.returns-clause-placed
returns-clause-placed g c =
    let w = g.S.Shelf.places c.args.shelf.now in
    let d = c.args.deck in
    let k = c.args.card in
    λ l m. record {
      deck = l;
      below = record {
        card = m;
        forward = c.task_if.ensures.placed ∙ ap (opt w.tasks) (entered d k Forward c.enter_task.result c.enter_task.ensures);
        backward = c.task_if-2.ensures.placed ∙ ap (opt w.tasks) (entered d k Backward c.enter_task-2.result c.enter_task-2.ensures);
        binding = c.find_binding.ensures.placed;
      };
    }
