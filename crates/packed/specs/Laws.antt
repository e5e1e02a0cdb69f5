-- What a packed run means is lawful for every content of its memory. Assumes nothing.
use Rattle.std.proofs.Common.{arith}
use Rattle.store.specs.Lawful.{Lawful}
use Rattle.runs.specs.Run.{reads, limits_of}
use Rattle.runs.proofs.Laws.{fine-reads}
use Rattle.packed.specs.declared.run.PackedRun.{PackedRun}

pub packed-lawful : Lawful {S = PackedRun} (λ t. reads t.bytes.now) (λ t. limits_of t.bytes.now)
packed-lawful = record {
  few_names = λ t. (fine-reads t.bytes.now).few;
  few_bytes = λ t. (fine-reads t.bytes.now).light;
  ordered = λ t. (fine-reads t.bytes.now).order;
  pairs = λ t. (fine-reads t.bytes.now).pairs;
  most_names = λ t. omega arith;
  most_bytes = λ t. omega arith;
}
