-- Names that the definitions of this crate use, from other crates and of its own types.
pub use Rattle.traffic_message.specs.declared.fields.DirectionFields.{DirectionFields}
pub use Rattle.pilot_sets.specs.declared.change.SetChange.{SetChange}
pub use Rattle.pilot_sets.specs.declared.fault.DirectionFault.{DirectionFault}
pub use Rattle.pilot_sets.specs.declared.fault.DirectionFault.TheVariants.{TooMany, Twice, Unknown}
pub use Rattle.pilot_sets.specs.declared.standing.Accepted.{Accepted}
pub use Rattle.pilot_sets.specs.declared.standing.ActivePilot.{ActivePilot}
pub use Rattle.pilot_sets.specs.declared.standing.CandidatePilot.{CandidatePilot}
pub use Rattle.pilot_sets.specs.declared.standing.NamedPilot.{NamedPilot}
pub use Rattle.pilot_sets.specs.declared.standing.PilotSets.{PilotSets}
pub use Rattle.pilot_sets.specs.declared.thresholds.Thresholds.{Thresholds}
