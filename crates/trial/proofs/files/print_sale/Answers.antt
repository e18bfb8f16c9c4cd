use Rattle.trial.proofs.files.print_sale.Goals as goal

-- the buyer's sheet and the catalogue that were read
pub returns : goal.returns
returns c = (c.in_ok-buyer.buyer, c.as_slice.result.now, c.in_ok-out.ensures)
