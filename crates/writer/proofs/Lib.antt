pub mod Laying
pub mod TextLaws
pub mod Digits
