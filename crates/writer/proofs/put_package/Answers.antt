-- The header, its digest, and the parts before it. Assumes nothing.
use Rattle.writer.proofs.PackageLaws as laws
use borrow.Author.Rules.{rules}
use Rattle.writer.proofs.put_package.Goals as goal

pub overflow_sub-number : goal.overflow_sub-number
overflow_sub-number c = search (rules, laws.number_fits)

pub put_structure-requires : goal.put_structure-requires
put_structure-requires c =
    laws.header_ready _ _ _ _ c.requires.2 c.requires.3 c.requires.4 (search rules) c.requires.1

pub put_signature-requires : goal.put_signature-requires
put_signature-requires c =
    laws.signature_ready _ _ _ _ c.requires.2 c.requires.3 c.requires.4 (search rules) c.requires.0

pub overflow_sub-start : goal.overflow_sub-start
overflow_sub-start c =
    rw c.count.ensures (laws.gap_fits _ _ _ _ c.requires.2)

pub returns : goal.returns
returns c =
    laws.package_put _ _ _ _ c.requires.2 c.args.out.now c.args.name.now _ _ c.requires.3
    c.put_structure.ensures c.part.ensures c.md5-digest.ensures c.put_lead.ensures
    c.put_signature.ensures (rw c.count.ensures at c.zeros.ensures)
