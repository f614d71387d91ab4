-- The invariant of a handset.
use Rattle.std.specs.Prelude.{◌≡◌, ℕ, ◌<◌, ◌≤◌}
use Rattle.rake_finger.specs.Held.{Held}
use Rattle.mobile_core.specs.FollowedChannels.{IsSoundFollowed, WaitFrom}
use Rattle.mobile_core.specs.SyncReceiving.{IsSoundSync}
use Rattle.mobile_core.specs.declared.followed.Followed.{Followed}
use Rattle.mobile_core.specs.declared.sync_receiver.SyncReceiver.{SyncReceiver}

-- the ring holds two frames, the decoder takes three, and every frame that has ended has been taken
pub record IsSound (count : ℕ) (ring : Held) (decoder : ℕ) (sync : SyncReceiver)
    (followed : Followed) : Type 0 where
  pub few : count ≤ 67108864
  pub within : ring.taken ≤ count
  pub room : ring.room ≡ 65536
  pub decodes : decoder ≡ 576
  pub hears : IsSoundSync sync
  pub waits : ring.taken < sync.received.clock.end
  pub follows : IsSoundFollowed followed
  pub others_wait : WaitFrom ring.taken followed
