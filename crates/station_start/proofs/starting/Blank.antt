-- No call accepts the blank state that a refused start leaves: its settings are out of rule. Assumes nothing.
use mathlib.Core.Bool.{true}
use mathlib.Core.Path.{◌≡◌, refl}
use Rattle.choice.specs.Choice.{pick, less, same, said}
use Rattle.times.specs.Times.{unruly_delays, unruly, outside}
use Rattle.state.specs.World.{state_of}
use Rattle.state.specs.Refusals.{unstartable, unstarted, lawless}
use Rattle.state.specs.Calls.{fresh_core, fresh_world}
use Rattle.state.specs.Told.{blank_settings, blank}

pub blank-lawless : lawless blank.core blank.masters.0 blank.started.0 blank.memory.kept ≡ true
unfolding lawless unstarted unstartable unruly unruly_delays outside pick less same said blank blank_settings state_of fresh_world
    fresh_core
blank-lawless = refl
