-- The listener of a job that only reports what the first samples show.
use Rattle.cdma_replay.proofs.Common.{◌≡◌, ℕ, List, Option, Sample, Header, event_line, Listener, Job, best_pilot, listening, ◌≢◌, refl}
use Rattle.cdma_replay.proofs.Common.{Unheard, Findings, findings_text}
use Rattle.chip_core.specs.declared.assignment.Traffic.{Traffic}
use Rattle.run_replies.specs.Findings.{AreWritable}
use Rattle.cdma_replay.specs.Listeners.{IsListenerFor}
use Rattle.cdma_replay.specs.declared.listener.Listener.TheVariants as by
use Rattle.command_line.specs.declared.job.Job.TheVariants as jobs

-- who hears nothing writes what was found
pub unheard_for : {text : List ℕ} {findings : Findings} {count : ℕ} → text ≡ findings_text findings →
    AreWritable findings → IsListenerFor (λ taps. Unheard text) count (by.Unheard findings)
unheard_for is writable = record { fresh = λ taps. is; tellable = writable; room = tt }

-- a job that none of these is has the pilot's line
pub pilot_alone : (job : Job) (header : Header) (first : List Sample) {listener : Listener} (count : ℕ) →
    ((span workers fingers paging : ℕ) (traffic : Option Traffic) (limits : List ℕ) →
    job ≢ jobs.Follow span workers fingers paging traffic limits) →
    ((span workers fingers offset esn row : ℕ) →
    job ≢ jobs.Rate2 span workers fingers offset esn row) →
    ((span workers fingers offset esn row k : ℕ) →
    job ≢ jobs.List span workers fingers offset esn row k) →
    ((span workers fingers paging key cycle : ℕ) →
    job ≢ jobs.Idle span workers fingers paging key cycle) →
    ((span workers base width top : ℕ) → job ≢ jobs.Survey span workers base width top) →
    IsListenerFor (λ taps. Unheard (event_line (best_pilot first))) count listener →
    IsListenerFor (λ taps. listening taps job header first) count listener
pilot_alone (jobs.Follow span workers fingers paging traffic limits) header first count follow
    rate2 list idle survey pilot = absurd (follow span workers fingers paging traffic limits refl)
pilot_alone (jobs.Rate2 span workers fingers offset esn row) header first count follow rate2
    list idle survey pilot = absurd (rate2 span workers fingers offset esn row refl)
pilot_alone (jobs.List span workers fingers offset esn row k) header first count follow rate2
    list idle survey pilot = absurd (list span workers fingers offset esn row k refl)
pilot_alone (jobs.Idle span workers fingers paging key cycle) header first count follow rate2
    list idle survey pilot = absurd (idle span workers fingers paging key cycle refl)
pilot_alone (jobs.Survey span workers base width top) header first count follow rate2 list idle
    survey pilot = absurd (survey span workers base width top refl)
pilot_alone job header first count follow rate2 list idle survey pilot = pilot
