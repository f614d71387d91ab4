-- Worked values of a cell's signal, which the checker computes.
use Rattle.cell_plan.specs.Common.{after, capsule, spelling, sync_body, sync_capsule, walsh}
use Rattle.cell_plan.specs.Common.{CellPlan, SyncPlan}
use Rattle.std.specs.Prelude.{◌≡◌, [], refl, ◌^◌, pos, negsuc, Option, Some, None}
use Rattle.chip_core.specs.Bits.{binary, places}
use Rattle.chip_core.specs.declared.check_form.CheckForm.TheVariants.{Plain}
use Rattle.short_code.specs.ShortCode.{chips_to}
use Rattle.quality_bits.specs.Quality.{check_bits}
use Rattle.symbol_path.specs.SentOrder.{sent_by}
use Rattle.cell_plan.specs.Sendings.{message_of, sync_frame_bits, continued_symbols, sync_symbols}
use Rattle.cell_plan.specs.SomeMessage.{some_sync}
use Rattle.cell_plan.specs.Signal.{carriers, sent_chip, sample_of}

cell : Option SyncPlan → CellPlan
cell sync = record {
  cell = record { pn = 0; time = 1000; lc = 2 ^ 41; check30 = Plain; check16 = Plain };
  link = record { factor = record { i = pos 0; q = negsuc 2 }; start = 0; samples = 1 };
  pilot = record { gain = 100 };
  sync = sync;
  paging = [];
  traffic = [];
}

pilot_alone : sample_of (cell None) 0 ≡ record { i = negsuc 299; q = pos 300 }
unfolding cell sample_of carriers sent_chip chips_to walsh binary
pilot_alone = refl

with_sync : sample_of (cell (Some (some_sync 1))) 0 ≡ record { i = negsuc 209; q = pos 210 }
unfolding cell sample_of carriers sent_chip chips_to walsh binary sync_symbols
    continued_symbols sync_frame_bits message_of after sync_capsule sync_body spelling capsule
    check_bits places sent_by
with_sync = refl
