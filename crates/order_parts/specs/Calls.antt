-- What is printed for a server that refuses a connection, or whose host has no address (this profile).
use Rattle.std.specs.Prelude.{ℕ, List, ◌++◌, codes, decimal}
use Rattle.std.specs.List.{flat_map}
use Rattle.session_telling.specs.Visible.{visible}

-- the host, as it was given, the port, and what to look for
abbrev pub refused_call_text : List ℕ → ℕ → List ℕ
refused_call_text host port = codes "connection refused by " ++ (flat_map visible host ++ (codes ", port " ++ (decimal port
    ++ codes ": is the server started?\n")))

-- the name of a host without an address, as it was given
abbrev pub unknown_host_text : List ℕ → List ℕ
unknown_host_text host = codes "unknown host: " ++ (flat_map visible host ++ codes "\n")
