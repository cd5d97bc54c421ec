pub mod EasySlips
