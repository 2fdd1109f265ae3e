-- Worked texts.
use Rattle.std.specs.Prelude.{◌≡◌, ◌++◌, [], ◌∷◌, codes, refl}
use Rattle.std.specs.Fmt.{digits}
use Rattle.csv_source.specs.Shown.{shown}
use Rattle.report_text.specs.MadeText.{made_row, made_text}

shown_bytes : shown (codes "a\\|b\n\r\t" ++ 1 ∷ 31 ∷ 127 ∷ 128 ∷ []) ≡ codes "a\\\\\\|b\\n\\r\\t\\x01\\x1f\\x7f" ++ 128 ∷ []
shown_bytes = refl

made_rows : made_text 7 2 ≡ codes "id,ok,day,note\n0,true,2000-08-07,\"note \"\"143\"\", 1401181143\"\n1,false,2000-09-05,\"note \"\"904\"\", 4055616904\"\n"
unfolding digits
made_rows = refl

sixteenth_row : made_row 7 15 ≡ codes "15,false,2000-04-10,\"note \"\"894\"\",\n2563011894\"\n"
unfolding digits
sixteenth_row = refl
