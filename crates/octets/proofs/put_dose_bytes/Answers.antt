-- From the body where book and buffer have room; else the three numbers, one behind the other. Assumes nothing.
use Rattle.std.proofs.Common.{ℕ, List, ap, ◌∙◌}
use Rattle.std.proofs.lemmas.List.Edits.{sets}
use Rattle.put.specs.Puts.{bytes_of}
use Rattle.book.specs.declared.dose.Dose.{Dose}
use Rattle.buffer.specs.Buffer.{numbers_of}
use Rattle.octets.specs.Octets.{number_bytes}
use Rattle.buffer.proofs.BufferLaws as stores
use Rattle.octets.proofs.OctetLaws as laws
use Rattle.octets.proofs.put_dose_bytes.Goals as goal

pub returns : goal.returns
returns c =
    let first = c.number.ensures ∙ ap (λ (n : ℕ). sets c.args.out.now c.args.i (bytes_of n)) c.from.ensures in
    search (laws.twelve_bytes, stores.of_dose (λ (ds : List Dose). number_bytes (numbers_of ds)))
