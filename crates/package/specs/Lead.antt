-- Document 01, "Lead" and check 4.
use Rattle.std.specs.Prelude.{eqb}
use Rattle.format.specs.declared.lead.Lead.{Lead}
use Rattle.format.specs.Verdicts.{check, Verdict, pass}

-- 4 | a lead field wrong | first wrong field's offset
-- bytes 0-3 are ED AB EE DB; 4 is 3; 5 is 0; 6-7 (type) are 0; 10-75 (name) hold at least one zero byte; 76-77 (system)
-- are 1; 78-79 (signature type) are 5
unfoldable pub lead_check : Lead → Verdict
lead_check lead =
    check (eqb lead.magic 0xEDABEEDB) 4 0
    (check (eqb lead.major 3) 4 4
    (check (eqb lead.minor 0) 4 5
    (check (eqb lead.ty 0) 4 6
    (check lead.named 4 10
    (check (eqb lead.system 1) 4 76
    (check (eqb lead.signature_type 5) 4 78
    pass))))))
