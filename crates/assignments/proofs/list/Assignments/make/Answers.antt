use Rattle.std.proofs.Common.{◌≡◌, true, Ok, sym, refl, ap, ◌∙◌}
use Rattle.store.specs.Vars.{Vars, sorted}
use Rattle.store.specs.Limits.{Limits, within}
use Rattle.assignments.specs.Joint.{put_all, jointly}
use Rattle.assignments.specs.Unsetting.{without_all, lacks_all}
use Rattle.assignments.specs.Pairs.{distinct}
use Rattle.assignments.specs.Listed.{listed}
use Rattle.assignments.proofs.Alls.{put_all-without_all, lacks_all-without_all}
use Rattle.assignments.proofs.list.Assignments.make.Goals as goal

-- after unsetting, the same outcome lies ahead
same_end : (m m' ps : Vars) → sorted m ≡ true → distinct ps ≡ true → m' ≡ without_all m ps → put_all m' ps ≡ put_all m ps
same_end m m' ps o d e = ap (λ z. put_all z ps) e ∙ put_all-without_all ps m o d

can : (l l' : Limits) (m m' ps : Vars) → sorted m ≡ true → distinct ps ≡ true → m' ≡ without_all m ps → l' ≡ l → within l (put_all m ps) ≡ true → within l' (put_all m' ps) ≡ true
can l l' m m' ps o d e f w = ap (within l') (same_end m m' ps o d e) ∙ (ap (λ z. within z (put_all m ps)) f ∙ w)

made : (l : Limits) (m ps : Vars) → within l (put_all m ps) ≡ true → Ok tt ≡ jointly l m ps
made l m ps w = rw w refl

pub set_all-requires : goal.set_all-requires
set_all-requires g c =
    let s = c.args.store.now in
    let m = g.S.Store.meaning s in
    let ps = listed c.args.self.now in
    let u = c.unset_all.ensures in
    record {
      unset = ap (λ z. lacks_all z ps) u.outcome ∙ lacks_all-without_all ps m;
      fits = can (g.S.Store.limits s) _ m _ ps (g.S.Store.lawful.ordered s) c.args.self.now.apart u.outcome u.limits (sym c.fits.ensures ∙ c.if-not-fits.false);
    }

pub returns : goal.returns
returns g c =
    let s = c.args.store.now in
    let m = g.S.Store.meaning s in
    let ps = listed c.args.self.now in
    let u = c.unset_all.ensures in
    record {
      limits = c.set_all.ensures.limits ∙ u.limits;
      answer = made (g.S.Store.limits s) m ps (sym c.fits.ensures ∙ c.if-not-fits.false);
      outcome = c.set_all.ensures.outcome ∙ same_end m _ ps (g.S.Store.lawful.ordered s) c.args.self.now.apart u.outcome;
    }
