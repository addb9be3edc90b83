-- `c_core::handover::blank` meets its contract: each number is reckoned.
use mathlib.Core.Path.{refl}
use Rattle.choice.specs.Choice.{pick, same, less}
use Rattle.ring.specs.Ring.{on, seek, member, previous_of}
use Rattle.state.specs.World.{state_of}
use Rattle.state.specs.Calls.{empty_queue, first_hold, forgotten, fresh_core, fresh_world}
use Rattle.state.specs.Told.{blank, blank_settings}
use Rattle.c_core.specs.Numbers.{flag_number, numbers_of, phase_number, served_number, settings_of}
use Rattle.c_core.proofs.handover.blank.Goals as goal

pub returns : goal.returns
unfolding numbers_of settings_of phase_number served_number flag_number pick same less on seek member previous_of blank blank_settings
    state_of fresh_world fresh_core first_hold forgotten empty_queue
returns c = refl
