-- The bytes of oxide and milligrams are the body's, and those of the lot come behind them. Assumes nothing.
use native.Mathlib.Omega.{arith}
use Rattle.octets.proofs.BodyLaws as laws
use Rattle.octets.proofs.put_body.Goals as goal

pub returns : goal.returns
returns c =
    let args = c.args in
    laws.copied args.book.now (λ k. omega (arith, c.type_inv.book k)) _ _ _ c.four.ensures
    c.four-2.ensures c.lot_at.ensures c.number.ensures
