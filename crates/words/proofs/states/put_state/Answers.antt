use Rattle.words.proofs.PutLaws.{state_put}
use Rattle.words.proofs.states.put_state.Goals as goal

pub returns : goal.returns
returns c = rw (c.put-3.ensures, c.put_body.ensures, c.own_body.ensures, c.put-2.ensures, c.flag.ensures, c.is_some.ensures, c.put_weights.ensures, c.put.ensures, c.ceiling.view_is, c.round.view_is) (state_put c.args.state.now c.args.out.now c.requires.0)
