-- The text of a reply, however it is made.
use Rattle.std.specs.Prelude.{ℕ, List}
use Rattle.loader_reply.specs.declared.reply_text.ReplyText.{ReplyText}
use Rattle.loader_reply.specs.declared.reply_text.ReplyText.TheVariants.{Whole, Report, Table, Arrays}

abbrev pub text_of : ReplyText → List ℕ
text_of (Whole text) = text
text_of (Report text) = text
text_of (Table text) = text
text_of (Arrays text) = text
