-- Header record, index and store, one behind the other. Assumes nothing.
use Rattle.writer.proofs.StructureLaws as laws
use Rattle.writer.proofs.structures.put_structure.Goals as goal

pub returns : goal.returns
returns c =
    laws.structure_put
    c.args.out.now
    c.args.place
    c.args.lent.now.list.now
    c.args.lent.now.row.now
    _
    c.args.size
    c.requires.1
    (rw c.count-n.ensures at c.put_header.ensures)
    c.put_index.ensures
    (rw c.count-n.ensures at c.put_store.ensures)
