-- Document 01, "Header structure": the header record (magic, reserved, nindex, hsize) and the index record (tag, type,
-- offset, count), four bytes each.
use Rattle.std.specs.Prelude.{ℕ, ◌+◌, List}
use Rattle.be.specs.Numbers.{be32_at}
use Rattle.format.specs.declared.records.HeaderRecord.{HeaderRecord}
use Rattle.format.specs.declared.records.IndexRecord.{IndexRecord}

abbrev pub header_record_at : List ℕ → ℕ → HeaderRecord
header_record_at s at =
    record {
      magic = be32_at s at;
      reserved = be32_at s (at + 4);
      nindex = be32_at s (at + 8);
      hsize = be32_at s (at + 12);
    }

abbrev pub index_record_at : List ℕ → ℕ → IndexRecord
index_record_at s at =
    record {
      tag = be32_at s at;
      ty = be32_at s (at + 4);
      offset = record { 0 = be32_at s (at + 8) };
      count = be32_at s (at + 12);
    }
