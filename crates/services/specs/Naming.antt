-- The files that a service or a relay names, in the order in which they are compared (this profile).
use Rattle.std.specs.Prelude.{ℕ, true, false, if◌then◌else◌, List, ◌++◌, codes, Option, None, Some, option_map, string_bytes}
use Rattle.std.specs.Str.{bytes_eq}
use Rattle.effects.specs.Naming.{Files, no_files, with_file}
use Rattle.services.specs.declared.relays.Relay.{Relay}
use Rattle.services.specs.declared.services.Service.{Service}

-- the setup, which is read, unless it is standard input; the contacts file and the log, which are written; and the stop file
abbrev pub service_files : List ℕ → Service → Files
service_files setup s = with_file (option_map string_bytes s.stop) false (with_file (option_map string_bytes s.log) true
    (with_file (option_map string_bytes s.contacts) true
    (if bytes_eq setup (codes "-") then no_files else with_file (Some setup) false no_files)))

-- the files of the first recording
abbrev pub with_recording : List ℕ → Files → Files
with_recording folder f = with_file (Some (folder ++ codes "/1.order")) false (with_file (Some (folder ++ codes "/1.down")) false
    (with_file (Some (folder ++ codes "/1.up")) false f))

abbrev pub with_recordings : Option (List ℕ) → Files → Files
with_recordings None f = f
with_recordings (Some folder) f = with_recording folder f

-- the told file and the log, which are written, and the files of the first recording
abbrev pub relay_files : Relay → Files
relay_files r = with_recordings (option_map string_bytes r.folder)
    (with_file (option_map string_bytes r.log) true (with_file (Some (string_bytes r.told)) true no_files))
