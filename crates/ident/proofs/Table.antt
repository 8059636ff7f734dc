-- The rows of document 01's table that are about names. Assumes nothing.
use mathlib.Core.Path.{◌≡◌, refl}
use Rattle.base.specs.Choose.{choose}
use Rattle.base.specs.Bytes.{b, same}
use Rattle.heck.specs.Case.{between, class, lowered, raised, parts, words, to_snake_case, to_upper_camel_case}
use Rattle.ident.specs.Ident.{among, raw_words, kept_words, addition, with_addition, sanitize_identifier, to_snake, to_upper_camel, strip_prefix, true_prefix, strip_enum_prefix}

pub snake_http_server : to_snake (b "HTTPServer") ≡ b "http_server"
unfolding choose same between class lowered raised parts words to_snake_case among raw_words kept_words addition with_addition sanitize_identifier to_snake
snake_http_server = refl

pub snake_digit : to_snake (b "a1B") ≡ b "a1_b"
unfolding choose same between class lowered raised parts words to_snake_case among raw_words kept_words addition with_addition sanitize_identifier to_snake
snake_digit = refl

pub snake_last_upper : to_snake (b "XYz") ≡ b "x_yz"
unfolding choose same between class lowered raised parts words to_snake_case among raw_words kept_words addition with_addition sanitize_identifier to_snake
snake_last_upper = refl

pub snake_type : to_snake (b "type") ≡ b "r#type"
unfolding choose same between class lowered raised parts words to_snake_case among raw_words kept_words addition with_addition sanitize_identifier to_snake
snake_type = refl

pub camel_self : to_upper_camel (b "self") ≡ b "Self_"
unfolding choose same between class lowered raised parts words to_upper_camel_case among raw_words kept_words addition with_addition sanitize_identifier to_upper_camel
camel_self = refl

pub camel_one : to_upper_camel (b "_1") ≡ b "_1"
unfolding choose same between class lowered raised parts words to_upper_camel_case among raw_words kept_words addition with_addition sanitize_identifier to_upper_camel
camel_one = refl

pub strip_self : strip_enum_prefix (b "Mode") (b "ModeSelf") ≡ b "Self_"
unfolding choose same between among raw_words kept_words addition with_addition sanitize_identifier strip_prefix true_prefix strip_enum_prefix
strip_self = refl

pub strip_digit : strip_enum_prefix (b "Mode") (b "Mode1") ≡ b "Mode1"
unfolding choose same between among raw_words kept_words addition with_addition sanitize_identifier strip_prefix true_prefix strip_enum_prefix
strip_digit = refl
