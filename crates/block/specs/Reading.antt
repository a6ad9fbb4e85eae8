-- How the code holds settings, and what its readings of blocks answer.
use Rattle.std.specs.Prelude.{Result, Ok, Err}
use Rattle.block.specs.declared.Refusal.{Refusal}
use Rattle.block.specs.declared.Settings.{Settings as SettingsWords}
use Rattle.block.specs.declared.Sort.{Sort}
use Rattle.block.specs.Entry.{Settings, Entry, container, policy}
use Rattle.block.specs.Refusal.{Read, refused, accepted}

unfoldable pub settings_words : Settings → SettingsWords
settings_words s = record { user_key = s.user_key; system_key = s.system_key; system_value = s.system_value }

-- the settings that the code's words say
unfoldable pub settings_of : SettingsWords → Settings
settings_of w = record { user_key = w.user_key; system_key = w.system_key; system_value = w.system_value }

-- what reading gives, in the code's words
abbrev pub read_words : Read Settings → Result SettingsWords Refusal
read_words (refused r) = Err r
read_words (accepted s) = Ok (settings_words s)

-- which kind of entry it is
abbrev pub sort_of : Entry → Sort
sort_of (container c) = Sort.Container
sort_of (policy p) = Sort.Policy

-- the kind of the entry that is read, or the refusal
abbrev pub read_sort : Read Entry → Result Sort Refusal
read_sort (refused r) = Err r
read_sort (accepted e) = Ok (sort_of e)
