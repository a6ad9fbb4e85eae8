-- One case for each arm of `valid_settings`.
use Rattle.formed.specs.Words.{settings_in}
use Rattle.entry_tests.proofs.Settings.{no-system, system}
use Rattle.entry_tests.proofs.settings_ok.Goals as goal

pub returns-then-key-eq0 : goal.returns-then-key-eq0
unfolding settings_in
returns-then-key-eq0 c = no-system (settings_in c.args.memory.now) c.within-user.ensures c.if-key-eq0.true

pub returns : goal.returns
unfolding settings_in
returns c = system (settings_in c.args.memory.now) c.within-user.ensures c.within-system.ensures c.if-key-eq0.false
