-- Each kind of reference is joined to the front that its definition says.
use Rattle.std.proofs.Common.{◌++◌, sym, ap, ◌∙◌, inl, inr, append_assoc}
use Rattle.address.specs.Address.{scheme, host_of, path_of}
use Rattle.address.specs.Resolve.{directory_of, merged, target, if_lawful}
use Rattle.address.specs.declared.kind.Kind.TheVariants.{SameDeck, Absolute, NetPath, AbsolutePath, OtherScheme, RelativePath}
use Rattle.address.specs.Meaning.{address_of}
use Rattle.resolve.proofs.Joining.{by_kind}
use Rattle.resolve.proofs.Laws.{resolution_laws}
use Rattle.resolve.proofs.Examples.{references}
use Rattle.resolve.proofs.join_as.Goals as goal

pub returns-in-SameDeck : goal.returns-in-SameDeck
unfolding target
returns-in-SameDeck c =
    let a = address_of c.args.current.now in
    let r = c.args.reference.now in
    record {
      meaning = λ k. c.join.ensures ∙ ap (λ b. if_lawful (b ++ r)) c.deck.ensures ∙ by_kind SameDeck a r (sym c.in-SameDeck.is ∙ k);
      laws = resolution_laws;
      examples = references;
    }

pub returns-in-Absolute : goal.returns-in-Absolute
unfolding target
returns-in-Absolute c =
    let a = address_of c.args.current.now in
    let r = c.args.reference.now in
    record {
      meaning = λ k. c.parse.ensures ∙ by_kind Absolute a r (sym c.in-Absolute.is ∙ k);
      laws = resolution_laws;
      examples = references;
    }

pub returns-in-AbsolutePath : goal.returns-in-AbsolutePath
unfolding target
returns-in-AbsolutePath c =
    let a = address_of c.args.current.now in
    let r = c.args.reference.now in
    record {
      meaning = λ k. c.join-in-AbsolutePath.ensures ∙ ap (λ b. if_lawful (b ++ r)) c.root.ensures ∙ by_kind AbsolutePath a r (sym c.in-AbsolutePath.is ∙ k);
      laws = resolution_laws;
      examples = references;
    }

pub returns-in-RelativePath : goal.returns-in-RelativePath
unfolding target merged
returns-in-RelativePath c =
    let a = address_of c.args.current.now in
    let r = c.args.reference.now in
    record {
      meaning = λ k. c.join-in-RelativePath.ensures ∙ ap (λ b. if_lawful (b ++ r)) c.directory.ensures
          ∙ ap (λ l. if_lawful (scheme ++ l)) (append_assoc (host_of a) (directory_of (path_of a)) r) ∙ by_kind RelativePath a r (sym c.in-RelativePath.is ∙ k);
      laws = resolution_laws;
      examples = references;
    }

pub returns-in-NetPath : goal.returns-in-NetPath
unfolding target
returns-in-NetPath c =
    let a = address_of c.args.current.now in
    let r = c.args.reference.now in
    record {
      meaning = λ k. elim c.in-NetPath.is [
        | inl e ↦ by_kind NetPath a r (sym e ∙ k)
        | inr e ↦ by_kind OtherScheme a r (sym e ∙ k)
      ];
      laws = resolution_laws;
      examples = references;
    }
