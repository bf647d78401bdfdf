-- Laws of one index record's rules.
use Prim.Native.Nat.{ℕ, ◌*◌, ◌<◌, ◌^◌}
use mathlib.Core.Path.{◌≡◌, sym, ◌∙◌}
use mathlib.Core.List.{List}
use mathlib.Core.Bool.{not}
use native.Mathlib.Omega.{arith}
use native.Mathlib.Nat.{mul-le-mul_right}
use Rattle.std.specs.Prelude.{Option, Some}
use Rattle.strings.specs.Strings.{is_ended}
use Rattle.format.specs.declared.section.Section.{Section}
use Rattle.format.specs.declared.section.Structure.{Structure}
use Rattle.format.specs.declared.records.IndexRecord.{IndexRecord}
use Rattle.format.specs.Verdicts.{check, both, pass}
use Rattle.format.proofs.RunLaws.{apart, apart_under}
use Rattle.entries.specs.declared.types.ElementSize.{ElementSize}
use Rattle.entries.specs.declared.types.ElementSize.TheVariants.{Bytes}
use Rattle.entries.specs.Types.{element_size}
use Rattle.entries.specs.Entries.{type_lawful, count_right, is_aligned, data_check, entry_check}
use Rattle.repeats.specs.Repeats.{tag_before}
use Rattle.entries.proofs.TypeLaws.{bytes_small}

-- a fixed size times a 32-bit count
pub product : (ty : ℕ) {k : Option ElementSize} {n : ℕ} (count : ℕ) → k ≡ element_size ty → k ≡ Some (Bytes n) → count < 2 ^ 32
    → n * count < 2 ^ 34
product ty {n = n} count q h k =
    let m = bytes_small ty n (sym q ∙ h) in
    omega (arith, mul-le-mul_right count m.1)

-- 9 to 13 are 9 to 12, then 13
pub entry_as : (structure : Structure) (s : List ℕ) (section : Section) (i place : ℕ) (e : IndexRecord) (end : Option ℕ)
    → entry_check structure s section i place e end
    ≡ both (data_check structure place e end) (check (not (tag_before s section i e.tag)) 13 place pass)
unfolding entry_check data_check
entry_as structure s section i place e end =
    let last = check (not (tag_before s section i e.tag)) 13 place pass in
    apart_under (type_lawful e) 9 place last _
    (apart_under (count_right structure e) 10 place last _
    (apart_under (is_aligned e) 11 place last _
    (apart (is_ended end) 12 place last)))
