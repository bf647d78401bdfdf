-- A whole package from its parts (package_put), and what its sizes say of the parts (number_fits, gap_fits, signature_ready,
-- header_ready).
use Prim.Native.Nat.{ℕ, ◌+◌, ◌-◌, ◌*◌, ◌/◌, ◌≤◌}
use mathlib.Core.Path.{◌≡◌, ap, ◌∙◌}
use mathlib.Core.List.{List, ◌++◌, append_assoc}
use lib.ListN.{length, take, drop, length-append, length-replicate}
use lib.Seq.{sets}
use native.Mathlib.Omega.{arith}
use Rattle.message_digest.specs.Md5.{digest}
use Rattle.message_digest.proofs.DigestLaws.{digest_length}
use Rattle.put.specs.Puts.{zeros}
use Rattle.put.proofs.PutLaws.{behind, before, put_there}
use Rattle.lists.specs.Lists.{entries_of}
use Rattle.reasons.specs.Reasons.{with_own}
use Rattle.layout.specs.Layout.{structure_bytes, signature_of, lead_bytes, written}
use Rattle.layout.proofs.LeadLaws.{lead_length}
use Rattle.plan.specs.declared.Sizes.{Sizes}
use Rattle.plan.specs.Refusals.{written_of}
use Rattle.plan.specs.Sizes.{Listed, structure_size, signature_store, header_store, sizes_of}
use Rattle.plan.proofs.SizeLaws.{signature_size, header_size}

module _ (sig sigs head heads : List ℕ) where
  -- what the sizes of a package say of its parts
  module _ {sizes : Sizes} (z : sizes ≡ sizes_of sig sigs head heads) where
    pub number_fits : sizes.start ≤ sizes.length
    number_fits = rw z (omega arith)

    pub gap_fits : 96 + (16 + 16 * (length sig / 16 + 2) + sizes.signature) ≤ sizes.start
    gap_fits = rw z (omega arith)

    number_is : sizes.length - sizes.start ≡ length (structure_bytes (entries_of head heads))
    number_is = let k = header_size sig sigs head heads in rw z (omega arith)

    end_is : (number : ℕ) (digest : List ℕ) → length digest ≡ 16
        → 96 + length (structure_bytes (with_own number digest (entries_of sig sigs)))
        ≡ 96 + (16 + 16 * (length sig / 16 + 2) + sizes.signature)
    end_is number digest h = let k = signature_size sig sigs head heads number digest h in rw z (omega arith)

    start_is : sizes.start ≡ (96 + (16 + 16 * (length sig / 16 + 2) + sizes.signature) + 7) / 8 * 8
    start_is = rw z

    module _ {room end : ℕ} (fits : sizes.length ≤ room) (small : sizes.length ≤ 65536) (e : end ≡ room) where
      pub signature_ready : Listed sig sigs
          → Listed sig sigs × (sizes.signature ≡ signature_store sig sigs)
          × (96 + structure_size (length sig / 16 + 2) sizes.signature ≤ end) × (sizes.signature ≤ 65536)
      signature_ready h =
          let a = number_fits in
          let b = gap_fits in
          (h, rw z, omega arith, omega arith)

      pub header_ready : Listed head heads
          → Listed head heads × (sizes.header ≡ header_store head heads)
          × (sizes.start + structure_size (length head / 16) sizes.header ≤ end) × (sizes.header ≤ 65536)
      header_ready h =
          let a : sizes.length ≡ sizes.start + (16 + 16 * (length head / 16) + sizes.header) = rw z in
          (h, rw z, omega arith, omega arith)

    -- the header, its digest, and the three parts before it, one behind the other
    pub package_put : (out name part found : List ℕ) {o₁ o₂ o₃ o₄ : List ℕ} → sizes.length ≤ length out
        → o₁ ≡ sets out sizes.start (structure_bytes (entries_of head heads))
        → part ≡ take (sizes.length - sizes.start) (drop sizes.start o₁) → found ≡ digest part
        → o₂ ≡ sets o₁ 0 (lead_bytes name)
        → o₃ ≡ sets o₂ 96 (structure_bytes (with_own (sizes.length - sizes.start) found (entries_of sig sigs)))
        → o₄ ≡ sets o₃ (96 + (16 + 16 * (length sig / 16 + 2) + sizes.signature))
        (zeros (sizes.start - (96 + (16 + 16 * (length sig / 16 + 2) + sizes.signature))))
        → o₄ ≡ sets out 0 (written_of name sig sigs head heads)
    unfolding written signature_of
    package_put out name part found {o₁} {o₂} {o₃} {o₄} room p q d r s t =
        let header = structure_bytes (entries_of head heads) in
        let number = sizes.length - sizes.start in
        let end = 96 + (16 + 16 * (length sig / 16 + 2) + sizes.signature) in
        let n = number_is in
        let f = number_fits in
        let there : part ≡ header =
        q ∙ rw (p, n) (put_there out header sizes.start (omega arith)) in
        let digested : found ≡ digest header = d ∙ ap digest there in
        let signature = structure_bytes (with_own number found (entries_of sig sigs)) in
        let a = end_is number found (ap length digested ∙ digest_length header) in
        let b = gap_fits in
        let c = lead_length name in
        let g = length-replicate {A = ℕ} (sizes.start - end) 0 in
        let h = length-append (lead_bytes name) (signature ++ zeros (sizes.start - end)) in
        let i = length-append signature (zeros (sizes.start - end)) in
        let front : o₄ ≡ sets o₁ 0 (lead_bytes name ++ (signature ++ zeros (sizes.start - end))) =
        behind o₁ 0 (lead_bytes name) (signature ++ zeros (sizes.start - end)) r
        (behind o₂ 96 signature (zeros (sizes.start - end)) s t (omega arith)) (omega arith) in
        rw (← digested, ← n, a, ← start_is)
        (before out 0 (lead_bytes name ++ (signature ++ zeros (sizes.start - end))) header p front (omega arith)
        ∙ ap (sets out 0)
        (append_assoc (lead_bytes name) (signature ++ zeros (sizes.start - end)) header
        ∙ ap (λ (l : List ℕ). lead_bytes name ++ l) (append_assoc signature (zeros (sizes.start - end)) header)))
