-- The sizes of a package that is to be written, and the plan of a writing: these sizes, or the refusal.
use Rattle.std.specs.Prelude.{ℕ, ◌+◌, ◌*◌, ◌/◌, ◌≤◌, ◌≡◌, List, length, Result, Ok, Err}
use Rattle.format.specs.Sizes.{package_limit, nindex_limit, lead_size, header_record_size, index_record_size}
use Rattle.format.specs.Places.{align_up}
use Rattle.lists.specs.Lists.{entries_of, sizes_from}
use Rattle.layout.specs.Layout.{store_from}
use Rattle.plan.specs.declared.Sizes.{Sizes}
use Rattle.plan.specs.Refusals.{room_check, write_check}
use Rattle.format.specs.Verdicts.{Verdict}
use Rattle.format.specs.declared.verdict.Refusal.{Refusal}

-- what 32 and the limit leave of a list as it is lent
abbrev pub Listed : List ℕ → List ℕ → Type 0
Listed list row =
    (length list / 16 ≤ nindex_limit) × (length row ≤ package_limit) × (sizes_from list (length list / 16) 0 ≡ length row)

-- a structure with so many index records and a store of so many bytes
abbrev pub structure_size : ℕ → ℕ → ℕ
structure_size nindex hsize = header_record_size + index_record_size * nindex + hsize

-- where the signature ends, with n entries behind 1000 and 1004 and a store of so many bytes
abbrev pub signature_end : ℕ → ℕ → ℕ
signature_end n hsize = lead_size + structure_size (n + 2) hsize

-- the stores of a signature, behind the 20 bytes of 1000 and 1004, and of a header
abbrev pub signature_store : List ℕ → List ℕ → ℕ
signature_store list row = 20 + length (store_from 20 (entries_of list row))

abbrev pub header_store : List ℕ → List ℕ → ℕ
header_store list row = length (store_from 0 (entries_of list row))

-- the sizes of a package with stores of the given sizes
abbrev pub sizes_with : List ℕ → List ℕ → ℕ → ℕ → Sizes
sizes_with signature header first second =
    record {
      signature = first;
      start = align_up 8 (signature_end (length signature / 16) first);
      header = second;
      length = align_up 8 (signature_end (length signature / 16) first) + structure_size (length header / 16) second;
    }

abbrev pub sizes_of : List ℕ → List ℕ → List ℕ → List ℕ → Sizes
sizes_of signature signatureRow header headerRow =
    sizes_with signature header (signature_store signature signatureRow) (header_store header headerRow)

-- the sizes, where 33 and 34 pass
abbrev pub plan_as : Verdict → Sizes → Result Sizes Refusal
plan_as (Ok _) sizes = Ok sizes
plan_as (Err e) sizes = Err e

unfoldable pub planned : List ℕ → List ℕ → List ℕ → List ℕ → ℕ → Result Sizes Refusal
planned signature signatureRow header headerRow room =
    plan_as (room_check (sizes_of signature signatureRow header headerRow).length room)
    (sizes_of signature signatureRow header headerRow)

-- the sizes, where 32 to 34 pass
unfoldable pub decided : List ℕ → List ℕ → List ℕ → List ℕ → List ℕ → ℕ → Result Sizes Refusal
decided name signature signatureRow header headerRow room =
    plan_as (write_check name signature signatureRow header headerRow room) (sizes_of signature signatureRow header headerRow)
