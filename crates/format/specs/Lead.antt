-- Document 01, "Lead": the fields of the lead that have a rule.
use Rattle.std.specs.Prelude.{ℕ, List, get_or}
use Rattle.be.specs.Numbers.{be16_at, be32_at}
use Rattle.strings.specs.Strings.{strings_from, is_ended}
use Rattle.format.specs.declared.lead.Lead.{Lead}

-- bytes 0-3; 4; 5; 6-7 (type); 10-75 (name) hold at least one zero byte; 76-77 (system); 78-79 (signature type)
abbrev pub lead_of : List ℕ → Lead
lead_of s =
    record {
      magic = be32_at s 0;
      major = get_or s 4 0;
      minor = get_or s 5 0;
      ty = be16_at s 6;
      named = is_ended (strings_from s 66 10 1);
      system = be16_at s 76;
      signature_type = be16_at s 78;
    }
