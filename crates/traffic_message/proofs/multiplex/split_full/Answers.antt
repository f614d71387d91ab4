use Rattle.traffic_message.proofs.Common.{◌∙◌}
use Rattle.traffic_message.proofs.Frames.{mixed_split, plain_split}
use Rattle.traffic_message.proofs.multiplex.split_full.Goals as goal

pub returns-then-not-get : goal.returns-then-not-get
returns-then-not-get c =
    c.only_primary.ensures
    ∙ plain_split c.args.bits.now c.get.result c.part.result c.requires c.get.ensures
    c.if-not-get.true c.part.ensures

pub returns : goal.returns
returns c =
    c.mixed.ensures
    ∙ mixed_split c.args.bits.now c.get.result c.get-4.result c.get-2.result c.get-3.result
    c.primary_size-size.result c.part-2.result c.part-3.result c.requires c.get.ensures
    c.get-4.ensures c.get-2.ensures c.get-3.ensures c.if-not-get.false
    c.primary_size-size.ensures.value c.part-2.ensures c.part-3.ensures
