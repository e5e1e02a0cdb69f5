-- What working one call ensures. Assumes nothing.
use Rattle.std.specs.Prelude.{◌≡◌, List, []}
use Rattle.names.specs.Names.{Bytes}
use Rattle.decks.specs.Model.{Deck}
use Rattle.machine.specs.Lives.{Meaning, Worked}
use Rattle.rounds.specs.declared.asked.Ask.{Ask}
use Rattle.rounds.specs.declared.asked.Reply.{Reply}
use Rattle.rounds.specs.Asks.{call_of, buffers_of}
use Rattle.rounds.specs.Replies.{answer_of, UnspentReply}

-- q, asked of b over the decks ds with m in the buffer, left b' and m' and was answered r: as defined; a buffer that the call is not lent stays; a ticket that is handed out is not spent
pub record Answered {B : Type 0} (M : Meaning B) (b : B) (q : Ask) (ds : List Deck) (m : Bytes) (b' : B) (r : Reply) (m' : Bytes) : Type 0 where
  pub worked : Worked M b (call_of q ds m) b' (answer_of r) (buffers_of q m')
  pub kept : buffers_of q m ≡ [] → m' ≡ m
  pub unspent : UnspentReply r
