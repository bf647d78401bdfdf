use Rattle.std.proofs.Common.{rules, ◌∙◌, ap}
use Rattle.format.specs.declared.section.Structure.TheVariants.{Signature}
use Rattle.structure.specs.Checked.{structure_checked}
use Rattle.package.proofs.OpenLaws.{signature_small}
use Rattle.package.proofs.structures.Goals as goal

pub header_start-start-requires : goal.header_start-start-requires
header_start-start-requires c =
    signature_small c.args.pkg.now c.args.len
    (c.check.ensures ∙ ap (structure_checked Signature c.args.pkg.now c.args.len) c.of.ensures) c.in_ok-signature.was (search rules)
