use Rattle.list_viterbi.proofs.Common.{◌≡◌, vec_len}
use Rattle.list_viterbi.proofs.Standing.{ListsStand}
use Rattle.list_viterbi.proofs.decoder.ListDecoder.list_into.Given as goal

abbrev pub invariant-loop-bit : goal.invariant-loop-bit
invariant-loop-bit l = record {
  columns_whole : vec_len l.self-inside.columns ≡ 576;
  kept : l.self-inside.max_bits ≡ l.fn.self;
  few : l.self-inside.column.k ≡ l.k;
  stands : ListsStand l.softs l.ends l.k l.bit l.self-inside.column.scores l.self-inside.columns.items;
}
