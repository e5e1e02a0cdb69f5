use Rattle.std.proofs.Common.{◌≡◌, ◌+◌, ◌-◌, length, take, drop, refl, sym, ◌∙◌, arith}
use Rattle.std.proofs.lemmas.List.{append_assoc}
use Rattle.std.proofs.lemmas.List.Edits.{paste_all, sets-eq}
use Rattle.std.proofs.lemmas.Slice.{put_mid-paste}
use Rattle.convert.proofs.sink.WriterSink.put_all.Goals as goal

pub returns : goal.returns
returns c =
    let xs = c.args.bytes.now in
    let buf = c.args.self.now.buf.now in
    let at = c.args.self.now.at in
    let len : length xs ≡ (at + length xs) - at = omega arith in
    record {
      same_reference = refl;
      bytes =
          put_mid-paste at _ buf _ xs (length xs) c.copy_from_slice.ensures.after len refl
          ∙ paste_all buf at xs (length xs) refl
          ∙ sym (append_assoc (take at buf) xs (drop (at + length xs) buf))
          ∙ sym (sets-eq xs buf at c.requires.room);
      end = refl;
    }
