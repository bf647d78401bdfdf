-- Document 01, "The job and its edges" and "Header structure": sizes and limits.
use Rattle.std.specs.Prelude.{ℕ}

-- a package is at most 65,536 bytes long
abbrev pub package_limit : ℕ
package_limit = 65536

abbrev pub lead_size : ℕ
lead_size = 96

abbrev pub header_record_size : ℕ
header_record_size = 16

abbrev pub index_record_size : ℕ
index_record_size = 16

-- nindex is 1 to 512
abbrev pub nindex_limit : ℕ
nindex_limit = 512
