-- The states of the source and the sink in memory.
use Rattle.std.specs.Prelude.{ℕ, ◌-◌, min, List, ◌++◌, length, drop}
use Rattle.cdma_io.specs.Outside.{next_count}

-- a source: the remaining bytes, the most bytes per call, the numbers of the calls that fail, and
-- the numbers of calls and of failed calls so far
pub record SourceState : Type 0 where
  pub bytes : List ℕ
  pub piece : ℕ
  pub failing : List ℕ
  pub calls : ℕ
  pub faults : ℕ

-- a sink: the bytes that it has taken, how many it has room for, and the rest as in a source
pub record SinkState : Type 0 where
  pub bytes : List ℕ
  pub room : ℕ
  pub piece : ℕ
  pub failing : List ℕ
  pub calls : ℕ
  pub faults : ℕ

-- how many bytes a source returns in a buffer of `wanted` bytes
abbrev pub given_count : SourceState → ℕ → ℕ
given_count s wanted = min (min wanted s.piece) (length s.bytes)

-- a source after it returned n bytes
abbrev pub given : SourceState → ℕ → SourceState
given s n = record s { bytes = drop n s.bytes; calls = next_count s.calls }

-- a source after a failed call
abbrev pub source_failed : SourceState → SourceState
source_failed s = record s { calls = next_count s.calls; faults = next_count s.faults }

-- how many bytes a sink takes of a piece of `offered` bytes
abbrev pub taken_count : SinkState → ℕ → ℕ
taken_count k offered = min (min offered k.piece) (k.room - length k.bytes)

-- a sink after it took these bytes
abbrev pub taken : SinkState → List ℕ → SinkState
taken k bytes = record k { bytes = k.bytes ++ bytes; calls = next_count k.calls }

-- a sink after a failed call
abbrev pub sink_failed : SinkState → SinkState
sink_failed k = record k { calls = next_count k.calls; faults = next_count k.faults }
