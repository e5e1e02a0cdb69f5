-- How a text and a call are called. Assumes nothing.
use Rattle.std.specs.Prelude.{ℕ, List, ◌++◌, codes}
use Rattle.std.specs.Fmt.{decimal}
use Rattle.faults.specs.declared.Which.{Which}
use Rattle.faults.specs.declared.Which.TheVariants.{Body, Host, Address, Name, Value}
use Rattle.faults.specs.declared.Caller.{Caller}
use Rattle.faults.specs.declared.Caller.TheVariants.{Press, Follow, Show, Fill}

-- a text, by what it belongs to
abbrev pub which_words : Which → List ℕ
which_words Body = codes "the body"
which_words Host = codes "the host's text"
which_words Address = codes "the address"
which_words (Name k) = codes "the name of assignment " ++ decimal k
which_words (Value k) = codes "the value of assignment " ++ decimal k

-- a call
abbrev pub caller_word : Caller → List ℕ
caller_word Press = codes "press"
caller_word Follow = codes "follow"
caller_word Show = codes "show"
caller_word Fill = codes "fill"
