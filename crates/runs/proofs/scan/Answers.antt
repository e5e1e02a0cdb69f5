use Rattle.std.proofs.Common.{◌≡◌, Bool, [], Decides, sym, ap, subst, ◌∙◌, arith}
use Rattle.std.specs.Str.{bytes_eq}
use Rattle.std.proofs.lemmas.Bool.Decides.{same_from_decides, Decides-eqb}
use Rattle.std.proofs.lemmas.Slice.Eq.{slice_eq-Decides, bytes_eq-Decides}
use Rattle.names.specs.Names.{Bytes}
use Rattle.store.proofs.Order.{same_sym}
use Rattle.runs.specs.Entries.{left, pair_of}
use Rattle.runs.specs.Run.{parse}
use Rattle.runs.proofs.Reading.{Scanned, scanned-before, scanned-same, scanned-after}
use Rattle.runs.proofs.Laws.{fine, near, scanned-start}
use Rattle.runs.proofs.scan.Goals as goal
use Rattle.runs.proofs.scan.Goals.{then-precedes, else-precedes+then-eq, else-precedes+else-eq}

same_as : (r : Bool) (n m : Bytes) → Decides r (n ≡ m) → bytes_eq m n ≡ r
same_as r n m d = same_sym m n ∙ sym (same_from_decides r (bytes_eq n m) d (bytes_eq-Decides n m))

pub loop-entry-init : goal.loop-entry-init
loop-entry-init c = scanned-start c.args.room c.args.run.now c.args.name.now _ (ap left c.into_iter-entry-iterator.ensures.into_iter_gives)

pub overflow_add-place : goal.overflow_add-place
overflow_add-place c =
    let l = c.loop-entry in
    let s = subst (λ m. Scanned (parse 32 c.args.room [] c.args.run.now) m c.args.name.now l.place l.value l.totals.names l.totals.bytes) c.in-Some.ensures.steps l.invariant in
    let b = scanned-before _ _ _ _ _ _ _ _ s (sym c.precedes.ensures ∙ c.if-precedes.true) in
    omega (arith, b.placed, near c.args.room c.args.run.now c.args.name.now c.requires)

pub overflow_add-place-then-precedes : goal.overflow_add-place-then-precedes
overflow_add-place-then-precedes c =
    let l = c.loop-entry in
    let s = subst (λ m. Scanned (parse 32 c.args.room [] c.args.run.now) m c.args.name.now l.place l.value l.totals.names l.totals.bytes) c.in-Some.ensures.steps l.invariant in
    let b = scanned-before _ _ _ _ _ _ _ _ s (sym c.precedes.ensures ∙ c.if-precedes.true) in
    omega (arith, b.placed, near c.args.room c.args.run.now c.args.name.now c.requires)

pub overflow_add-totals : goal.overflow_add-totals
overflow_add-totals c =
    let l = c.loop-entry in
    omega (arith, l.invariant.counted, (fine 32 c.args.room [] c.args.run.now).few)

pub overflow_add-totals-in-loop-entry : goal.overflow_add-totals-in-loop-entry
overflow_add-totals-in-loop-entry c =
    let l = c.loop-entry in
    let s = subst (λ m. Scanned (parse 32 c.args.room [] c.args.run.now) m c.args.name.now l.place l.value l.totals.names l.totals.bytes) c.in-Some.ensures.steps l.invariant in
    omega (arith, s.weighed, (fine 32 c.args.room [] c.args.run.now).light, c.requires)

pub loop-entry-preserved : goal.loop-entry-preserved
loop-entry-preserved c =
    let l = c.loop-entry in
    let n = c.args.name.now in
    let p = c.in-Some.entry in
    let s = subst (λ m. Scanned (parse 32 c.args.room [] c.args.run.now) m c.args.name.now l.place l.value l.totals.names l.totals.bytes) c.in-Some.ensures.steps l.invariant in
    elim c.if-precedes.branch [
      | then-precedes w ↦ rw (w.place-is, w.value-is) (scanned-before _ _ (pair_of p) n _ _ _ _ s (sym c.precedes.ensures ∙ w.if-precedes.true))
      | else-precedes+then-eq w ↦
          let e = same_as _ p.name.now n (slice_eq-Decides Decides-eqb _ _ _ w.eq.ensures) in
          rw (w.place-is, w.value-is) (scanned-same _ _ (pair_of p) n _ _ _ _ s (sym c.precedes.ensures ∙ w.if-precedes.false) (e ∙ w.if-eq.true))
      | else-precedes+else-eq w ↦
          let e = same_as _ p.name.now n (slice_eq-Decides Decides-eqb _ _ _ w.eq.ensures) in
          rw (w.place-is, w.value-is) (scanned-after _ _ (pair_of p) n _ _ _ _ s (sym c.precedes.ensures ∙ w.if-precedes.false) (e ∙ w.if-eq.false))
    ]
