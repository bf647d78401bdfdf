-- Header record, index and store, one behind the other, 1000 and 1004 first in index and store. Assumes nothing.
use Rattle.writer.proofs.StructureLaws as laws
use borrow.Author.Rules.{rules}
use Rattle.writer.proofs.structures.put_signature.Goals as goal

pub returns : goal.returns
returns c =
    laws.signature_put
    c.args.out.now
    c.args.place
    c.args.lent.now.list.now
    c.args.lent.now.row.now
    _
    c.args.size
    c.args.number
    c.args.digest.now
    (search rules)
    c.requires.1
    (rw c.count-n.ensures at c.put_header.ensures)
    c.put_own_index.ensures
    c.put_index.ensures
    (rw c.count-n.ensures at c.put_own_store.ensures)
    (rw c.count-n.ensures at c.put_store.ensures)
