-- Worked examples of texts, with t = `-18.5`, room = `B 2`, p = `%41%4` and v = `$t`. Assumes nothing.
use Rattle.std.specs.Prelude.{◌≡◌, [], ◌∷◌, Err, codes}
use Rattle.names.specs.Names.{Bytes}
use Rattle.store.specs.Vars.{Vars, look}
use Rattle.text.specs.declared.Mode.TheVariants.{Plain, Address}
use Rattle.text.specs.declared.TextFault.TheVariants.{Broken}
use Rattle.text.specs.Fill.{filled}
use Rattle.text.specs.Answers.{number_of, fill_answer}

abbrev pub vars : Vars
vars = (codes "p", codes "%41%4") ∷ (codes "room", codes "B 2") ∷ (codes "t", codes "-18.5") ∷ (codes "v", codes "$t") ∷ []

abbrev pub plain : Bytes → Bytes
plain text = filled (look vars) Plain text

abbrev pub address : Bytes → Bytes
address text = filled (look vars) Address text

pub record Texts : Type 0 where
  pub bracketed : plain (codes "at $(t) C") ≡ codes "at -18.5 C"
  pub bare : plain (codes "$room/$$") ≡ codes "B 2/$"
  pub not_again : plain (codes "$v") ≡ codes "$t"
  pub escaped : address (codes "/log?r=$(room)") ≡ codes "/log?r=B%202"
  pub unescaped : plain (codes "$(p:U)") ≡ codes "A%4"
  pub broken : fill_answer (look vars) Plain (codes "a$") [] ≡ Err (Broken 1)
  pub broken_number : number_of (Broken 1) ≡ 21
