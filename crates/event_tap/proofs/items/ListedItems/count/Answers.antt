use Rattle.event_tap.proofs.Common.{arith, common_steps, ints, length-map-places, height, columns_text}
use Rattle.event_tap.proofs.items.ListedItems.count.Goals as goal

pub returns-clause-all : goal.returns-clause-all
returns-clause-all c =
    let columns = c.args.self.now.columns.now in
    length-map-places (columns_text columns) (height columns)

pub listed : goal.listed
listed c = grind (ints, arith, common_steps)
