-- The numbers of the catalogue's types in the words of the papers.
use Rattle.std.specs.Prelude.{ℕ}

abbrev pub char : ℕ
char = 1

abbrev pub int8 : ℕ
int8 = 2

abbrev pub int16 : ℕ
int16 = 3

abbrev pub int32 : ℕ
int32 = 4

abbrev pub string : ℕ
string = 6

abbrev pub bin : ℕ
bin = 7

abbrev pub string_array : ℕ
string_array = 8

abbrev pub translated : ℕ
translated = 9
